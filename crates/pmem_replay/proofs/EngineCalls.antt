-- One call of the engine, and the world after it.
pub mod OfEngine
pub mod Lawful
pub mod Worlds
pub mod CallEnds
pub mod NotedWorlds
pub mod CommandSteps
