pub mod PairWords
pub mod PairCloses
pub mod PairSources
pub mod PairReplies
pub mod EventCounts
pub mod EventRuns
pub mod Events
