pub mod Heap
pub mod InOrder
pub mod Keys
pub mod Order
pub mod Queue
