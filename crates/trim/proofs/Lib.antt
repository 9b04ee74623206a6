pub mod Compacting
