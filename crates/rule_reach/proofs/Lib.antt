pub mod Leads
pub mod Tables
pub mod Rounds
