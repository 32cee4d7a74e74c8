pub mod Steps
pub mod ItemLists
pub mod TaskItems
pub mod WaitingItems
pub mod SendSteps
pub mod WorkedSteps
