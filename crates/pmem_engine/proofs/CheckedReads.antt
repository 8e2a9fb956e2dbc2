-- A page's path is fetched, and a line read and unsealed.
pub mod LineCounters
pub mod UnsealedLines
pub mod FetchedPaths
pub mod FetchEnds
pub mod PathCosts
pub mod FetchAnswers
pub mod FetchCalls
pub mod LineReads
