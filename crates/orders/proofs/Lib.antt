pub mod Every
pub mod Labels
