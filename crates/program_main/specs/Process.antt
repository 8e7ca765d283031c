-- How a process ends that runs the program.
use Rattle.std.specs.Prelude.{ℕ}
use Rattle.program_main.specs.declared.process.Ended.{Ended}

-- the status with which it ends
abbrev pub ended_status : Ended → ℕ
ended_status ended = ended.status
