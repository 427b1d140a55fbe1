pub mod RuleSet
