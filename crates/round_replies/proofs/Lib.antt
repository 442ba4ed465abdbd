pub mod DepartureReplies
pub mod RoundSources
pub mod ReadyMore
pub mod NoTakings
pub mod BoardReplies
pub mod AnyRounds
pub mod Rounds
