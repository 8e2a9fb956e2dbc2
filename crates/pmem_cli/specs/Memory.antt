-- What a source and a sink over memory are seen as.
use Rattle.std.specs.Prelude.{List, ℕ}
use Rattle.pmem_cli.specs.declared.pulls.Pulls.{Pulls}

pub record MemoryInput : Type 0 where
  -- the bytes that are still to be given
  pub left : List ℕ
  -- the bytes that were given
  pub given : List ℕ
  -- those that had been given before the last call
  pub given_before : List ℕ
  -- the numbers of the calls that fail, counted from 0
  pub failing : List ℕ
  -- the number of calls so far, up to 2^64 - 1, so the number of the next one
  pub calls : ℕ
  -- how many of them failed, up to 2^64 - 1
  pub faults : ℕ
  -- how far the pulls have come
  pub pulls : Pulls

pub record MemoryOutput : Type 0 where
  -- the bytes that were put
  pub put : List ℕ
  -- how many bytes it can take in all
  pub capacity : ℕ
  -- the numbers of the calls that fail, counted from 0
  pub failing : List ℕ
  -- the number of calls so far, up to 2^64 - 1, so the number of the next one
  pub calls : ℕ
  -- how many of them failed, up to 2^64 - 1
  pub faults : ℕ
