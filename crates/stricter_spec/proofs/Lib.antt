pub mod Cases
pub mod RulesCases
