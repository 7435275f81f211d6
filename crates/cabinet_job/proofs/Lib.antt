pub mod PowerLaws
pub mod SizeLaws
pub mod RoomLaws
