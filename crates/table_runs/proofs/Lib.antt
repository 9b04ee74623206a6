pub mod Cycles
pub mod LeadIns
pub mod Entering
pub mod Flagging
pub mod Thinning
pub mod Parts
