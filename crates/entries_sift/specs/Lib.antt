pub mod Sift
