-- Each answer as a flat record. It begins with `refused`, 0 or the number of RULES, Refusals, and `at`, the value beside that number, else 0.
use Rattle.std.specs.Prelude.{◌≡◌, Bool, true, false, ℕ, pos, ⊤, Option, None, Some, Result, Ok, Err}
use Rattle.layout.specs.declared.Refused.{Refused}
use Rattle.layout.specs.Refused.{number_of, beside}
use Rattle.meaning.specs.declared.LimitSet.{LimitSet}
use Rattle.sets.specs.Bytes.{empty_set}
use Rattle.verdict.specs.declared.Loss.{Loss}
use Rattle.compare.specs.declared.Pattern.{Pattern}
use Rattle.compare.specs.declared.RefusedSet.{RefusedSet}
use Rattle.compare.specs.Compare.{which_of, why_of, pattern_in}
use Rattle.guard.specs.declared.Guard.{Guard}
use Rattle.guard.specs.declared.Answer.{Answer}
use Rattle.guard.specs.declared.Answer.TheVariants.{Normal, Panic, Lost}
use Rattle.guard.specs.Guard.{fresh}
use Rattle.flat.specs.declared.FloeSetRead.{FloeSetRead}
use Rattle.flat.specs.declared.FloeWritten.{FloeWritten}
use Rattle.flat.specs.declared.FloeVerdict.{FloeVerdict}
use Rattle.flat.specs.declared.FloeComparison.{FloeComparison}
use Rattle.flat.specs.declared.FloeBuilt.{FloeBuilt}
use Rattle.flat.specs.declared.FloeChecked.{FloeChecked}
use Rattle.flat.specs.declared.FloeStarted.{FloeStarted}
use Rattle.flat.specs.declared.FloeAsked.{FloeAsked}
use Rattle.flat.specs.declared.FloeTold.{FloeTold}
use Rattle.flat.specs.declared.FloeDone.{FloeDone}
use Rattle.flat.specs.declared.FloeRowAsked.{FloeRowAsked}
use Rattle.flat.specs.declared.FloeLogOpened.{FloeLogOpened}
use Rattle.flat.specs.declared.FloeLogRead.{FloeLogRead}

-- what an exported function promises: there is an answer that the promise of the library function behind it allows, and the record is its flat form
abbrev pub FlatAnswer : {A R : Type 0} → (A → Type 0) → (A → R) → R → Type 0
FlatAnswer {A} promise flat r = (a : A) × promise a × (r ≡ flat a)

-- `refused` and `at` of an answer
abbrev pub numbers_of : {A : Type 0} → Result A Refused → ℕ × ℕ
numbers_of (Ok x) = (0, 0)
numbers_of (Err e) = (number_of e, beside e)

abbrev pub flat_set : Result LimitSet Refused → FloeSetRead
flat_set (Ok s) = record { refused = 0; at = 0; set = s }
flat_set (Err e) = record { refused = number_of e; at = beside e; set = empty_set }

abbrev pub flat_written : Result ℕ Refused → FloeWritten
flat_written (Ok length) = record { refused = 0; at = 0; length = length }
flat_written (Err e) = record { refused = number_of e; at = beside e; length = 0 }

-- kept is 1 or 0, and 0 on a refusal; job, limit and first are 0 where nothing is lost
abbrev pub flat_verdict : Result (Option Loss) Refused → FloeVerdict
flat_verdict (Ok None) = record { refused = 0; at = 0; kept = 1; job = 0; limit = 0; first = pos 0 }
flat_verdict (Ok (Some l)) = record { refused = 0; at = 0; kept = 0; job = l.job; limit = l.limit; first = l.first }
flat_verdict (Err e) = record { refused = number_of e; at = beside e; kept = 0; job = 0; limit = 0; first = pos 0 }

abbrev pub flat_compared : Result (Option Pattern) RefusedSet → Pattern → FloeComparison
flat_compared (Ok None) p = record { refused = 0; at = 0; which = 0; covers = 1; length = p.length; pattern = p.outcomes }
flat_compared (Ok (Some between)) p = record { refused = 0; at = 0; which = 0; covers = 0; length = p.length; pattern = p.outcomes }
flat_compared (Err e) p = record { refused = number_of (why_of e); at = beside (why_of e); which = which_of e; covers = 0; length = p.length; pattern = p.outcomes }

abbrev pub flat_comparison : Result (Option Pattern) RefusedSet → FloeComparison
flat_comparison a = flat_compared a (pattern_in a)

abbrev pub flat_built : Result ℕ Refused → FloeBuilt
flat_built (Ok length) = record { refused = 0; at = 0; length = length }
flat_built (Err e) = record { refused = number_of e; at = beside e; length = 0 }

abbrev pub flat_checked : Result ℕ Refused → FloeChecked
flat_checked (Ok states) = record { refused = 0; at = 0; states = states }
flat_checked (Err e) = record { refused = number_of e; at = beside e; states = 0 }

-- a guard's calls: what is said of the answer, alone where the guards stay in a row
abbrev pub flat_start : Result ⊤ Refused → FloeDone
flat_start (Ok x) = record { refused = 0; at = 0 }
flat_start (Err e) = record { refused = number_of e; at = beside e }

-- 0 normal, 1 panic, 2 lost, 3 refused
abbrev pub flat_ask : Result Answer Refused → FloeRowAsked
flat_ask (Ok Normal) = record { refused = 0; at = 0; answer = 0 }
flat_ask (Ok Panic) = record { refused = 0; at = 0; answer = 1 }
flat_ask (Ok Lost) = record { refused = 0; at = 0; answer = 2 }
flat_ask (Err e) = record { refused = number_of e; at = beside e; answer = 3 }

abbrev pub flat_tell : Result ⊤ Refused → FloeDone
flat_tell (Ok x) = record { refused = 0; at = 0 }
flat_tell (Err e) = record { refused = number_of e; at = beside e }

-- and beside it the guard where it is passed by value
abbrev pub flat_started : (Result ⊤ Refused × Guard) → FloeStarted
flat_started a = let said = flat_start a.0 in record { refused = said.refused; at = said.at; guard = a.1 }

abbrev pub flat_asked : (Result Answer Refused × Guard) → FloeAsked
flat_asked a = let said = flat_ask a.0 in record { refused = said.refused; at = said.at; answer = said.answer; guard = a.1 }

abbrev pub flat_told : (Result ⊤ Refused × Guard) → FloeTold
flat_told a = let said = flat_tell a.0 in record { refused = said.refused; at = said.at; guard = a.1 }

-- a guard that was read back; beside a refusal stands one with nothing told
abbrev pub flat_back : Result Guard Refused → FloeStarted
flat_back (Ok g) = record { refused = 0; at = 0; guard = g }
flat_back (Err e) = record { refused = number_of e; at = beside e; guard = fresh }

-- place 0, on a refusal too
abbrev pub flat_opened : Result ⊤ Refused → FloeLogOpened
flat_opened (Ok x) = record { refused = 0; at = 0; place = 0 }
flat_opened (Err e) = record { refused = number_of e; at = beside e; place = 0 }

-- 0 miss, 1 hit, 2 end, 3 refused; and the place where the reader then stands
abbrev pub flat_read : Result (Option Bool) Refused → (place : ℕ) → FloeLogRead
flat_read (Ok (Some false)) place = record { refused = 0; at = 0; answer = 0; place = place }
flat_read (Ok (Some true)) place = record { refused = 0; at = 0; answer = 1; place = place }
flat_read (Ok None) place = record { refused = 0; at = 0; answer = 2; place = place }
flat_read (Err e) place = record { refused = number_of e; at = beside e; answer = 3; place = place }

abbrev pub flat_log_read : (Result (Option Bool) Refused × ℕ) → FloeLogRead
flat_log_read a = flat_read a.0 a.1
