pub mod RoundRuns
