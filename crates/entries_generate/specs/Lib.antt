pub mod LentRow
