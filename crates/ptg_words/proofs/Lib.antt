mod ClapUses
mod ClapStates
mod ClapTurns
mod ClapWalk
mod PartsOfUses
mod ClapViews
mod ClapEnd
mod Building
mod ClapRules
mod ClapCommands
pub mod ValuesRead
pub mod Rules
pub mod OneCommand
pub mod Proper
mod CommandFacts
pub mod CallerLemmas
