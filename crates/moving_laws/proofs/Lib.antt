pub mod Lists
pub mod OpenedPage
pub mod Pointed
pub mod Behind
pub mod GoneWith
pub mod Committed
pub mod Cleared
pub mod Entered
