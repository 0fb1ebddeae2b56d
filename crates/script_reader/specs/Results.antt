-- What follows where a line isn't at fault.
use Rattle.std.specs.Prelude.{ℕ, Bool, Result, Ok, Err, if◌then◌else◌}
use Rattle.script_reader.specs.declared.fault.ScriptKind.{ScriptKind}
use Rattle.script_reader.specs.declared.fault.ScriptFault.{ScriptFault}

-- what follows where there is no fault
infixl 10 ◌>>=◌
abbrev pub ◌>>=◌ : {A B : Type 0} → Result A ScriptKind → (A → Result B ScriptKind) → Result B ScriptKind
(Ok x) >>= f = f x
(Err kind) >>= f = Err kind

-- a fault, unless a test passes
abbrev pub check : ScriptKind → Bool → Result Unit ScriptKind
check kind passes = if passes then Ok tt else Err kind

-- what a line gives, or its fault
abbrev pub on_line : {A : Type 0} → ℕ → Result A ScriptKind → Result A ScriptFault
on_line number (Ok x) = Ok x
on_line number (Err kind) = Err (record { line = number; kind = kind })
