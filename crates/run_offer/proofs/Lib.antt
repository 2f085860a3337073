-- The laws that the proofs of the functions cite.
mod Offers
