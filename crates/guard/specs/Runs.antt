-- RULES, The row: "No other guard changes, and what a job hears depends on no guard but its own." To say so of whole runs: calls one after the other, as they were answered, of one guard and of a row of guards. A caller takes the guard that comes back; where a start is refused it keeps the one it had.
use Rattle.std.specs.Prelude.{◌≡◌, cond, List, [], ◌∷◌, ℕ, eqb, ⊤, Result, Ok, Err}
use Rattle.layout.specs.declared.Refused.{Refused}
use Rattle.guard.specs.declared.Guard.{Guard}
use Rattle.guard.specs.declared.Answer.{Answer}
use Rattle.guard.specs.Guard.{StartedAs, AskedAs, ToldAs}
use Rattle.guard.specs.Row.{RowStartedAs, RowAskedAs, RowToldAs}

-- a call with the table that it was lent, and its answer
pub data Call : Type 0 where
  starts : List ℕ → Result ⊤ Refused → Call
  asks : List ℕ → Result Answer Refused → Call
  tells : List ℕ → (byte : ℕ) → Result ⊤ Refused → Call

abbrev pub taken : Result ⊤ Refused → (started old : Guard) → Guard
taken (Ok x) started old = started
taken (Err r) started old = old

-- from guard g through the calls to guard h, each answered as its promise allows
abbrev pub Run : Guard → List Call → Guard → Type 0
Run g [] h = h ≡ g
Run g (starts b a ∷ calls) h = (s : Guard) × StartedAs b a s × Run (taken a s g) calls h
Run g (asks b a ∷ calls) h = (s : Guard) × AskedAs b g a s × Run s calls h
Run g (tells b byte a ∷ calls) h = (s : Guard) × ToldAs b g byte a s × Run s calls h

-- a call on a row, for one job
pub record RowCall : Type 0 where
  pub job : ℕ
  pub call : Call

-- what one call does to a row
abbrev pub RowStep : List Guard → ℕ → Call → List Guard → Type 0
RowStep r job (starts b a) r' = RowStartedAs r job b a r'
RowStep r job (asks b a) r' = RowAskedAs r job b a × (r' ≡ r)
RowStep r job (tells b byte a) r' = RowToldAs r job b byte a r'

abbrev pub RowRun : List Guard → List RowCall → List Guard → Type 0
RowRun r [] last = last ≡ r
RowRun r (c ∷ calls) last = (r' : List Guard) × RowStep r c.job c.call r' × RowRun r' calls last

-- one job's calls alone
abbrev pub calls_of : ℕ → List RowCall → List Call
calls_of job [] = []
calls_of job (c ∷ calls) = cond (eqb c.job job) (c.call ∷ calls_of job calls) (calls_of job calls)

-- only asks and tells, all on table b
abbrev pub OnTable : List ℕ → List Call → Type 0
OnTable b [] = Unit {0}
OnTable b (starts b' a ∷ calls) = ⊥
OnTable b (asks b' a ∷ calls) = (b' ≡ b) × OnTable b calls
OnTable b (tells b' byte a ∷ calls) = (b' ≡ b) × OnTable b calls

-- the bytes told, refused ones too
abbrev pub bytes_told : List Call → List ℕ
bytes_told [] = []
bytes_told (starts b a ∷ calls) = bytes_told calls
bytes_told (asks b a ∷ calls) = bytes_told calls
bytes_told (tells b byte a ∷ calls) = byte ∷ bytes_told calls
