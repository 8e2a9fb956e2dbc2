-- Two outcomes of one step are the same, and so are their logs, and two new worlds.
pub mod CallsAlike
pub mod FencesAlike
pub mod RecoveriesAlike
pub mod StepsAlike
pub mod LogsAlike
pub mod NewWorldsAlike
