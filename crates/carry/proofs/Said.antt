-- What an answer says where it is an error, and where it isn't; and that a refusal is handed on as it is. Assumes nothing.
use mathlib.Core.Path.{◌≡◌, refl, sym, ap, ◌∙◌}
use mathlib.Core.Bool.{true, false, true≢false}
use Prim.Native.Nat.{ℕ}
use Rattle.std.specs.Prelude.{⊤, Result, Ok, Err}
use Rattle.std.specs.Result.{IsErrAnd, is_err}
use Rattle.std.proofs.lemmas.Result.{err_from_is_err_and}
use Rattle.layout.specs.declared.HeadFault.{HeadFault}
use Rattle.layout.specs.declared.Refused.{Refused}
use Rattle.layout.specs.Refusal.{passed}
use Rattle.layout.specs.Refused.{says}
use Rattle.layout.specs.Head.{head_says}
use Rattle.layout.proofs.Rows.{passed_not_refused}

pub no_head_fault : (wrong other : ℕ) (r : Result ⊤ HeadFault) → false ≡ is_err r → head_says wrong other r ≡ passed
no_head_fault wrong other (Ok x) e = refl
no_head_fault wrong other (Err fault) e = absurd (true≢false (sym e))

pub says_passed : {A : Type 0} (r : Result A Refused) → false ≡ is_err r → says r ≡ passed
says_passed (Ok x) e = refl
says_passed (Err why) e = absurd (true≢false (sym e))

pub says_refused : {A : Type 0} (r : Result A Refused) → true ≡ is_err r → says r ≡ passed → ⊥
says_refused (Ok x) e f = true≢false e
says_refused (Err why) e f = passed_not_refused (sym f)

-- what a `?` returns
pub handed_on : {A : Type 0} (why : Refused) (r : Result A Refused) → IsErrAnd r (λ e. e ≡ why) → r ≡ Err why
handed_on why r p = let q = err_from_is_err_and r p in q.1 ∙ ap Err q.2
