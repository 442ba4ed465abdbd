pub mod FlatForms
pub mod RoundLists
pub mod RoundTeams
pub mod TeamsTold
pub mod TeamsAhead
