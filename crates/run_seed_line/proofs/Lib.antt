mod Pieces
-- the loops along the other axes rest on it too
pub mod Along
