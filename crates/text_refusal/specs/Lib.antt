pub mod RefusalLine
