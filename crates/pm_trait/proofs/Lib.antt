pub mod AckLaws
pub mod ContinuesLaws
pub mod DeviceLaws
pub mod DeviceViewLaws
pub mod Onward
pub mod TrailLaws
mod TrailRows
pub mod Unfolding
