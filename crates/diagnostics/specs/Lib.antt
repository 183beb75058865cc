pub mod Lines
pub mod Columns
pub mod Excerpts
pub mod Sentences
pub mod TypingRules
pub mod ScopeRules
pub mod RuleTexts
