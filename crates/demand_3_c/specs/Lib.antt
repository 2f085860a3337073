pub mod AfterC
