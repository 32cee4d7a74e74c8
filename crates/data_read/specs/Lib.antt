pub mod Fields
pub mod Draft
pub mod Records
pub mod Reading
pub mod Growing
pub mod RecordsLeft
