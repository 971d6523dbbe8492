pub mod Machine
pub mod Run
pub mod Legal
pub mod Laws
pub mod Told
pub mod Lives
pub mod Reacting
pub mod Apart
