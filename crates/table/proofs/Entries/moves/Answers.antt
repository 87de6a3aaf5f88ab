-- `Entries::moves`: the two pairs are tested one after the other. Assumes nothing.
use mathlib.Core.Path.{◌≡◌, sym, ap, ap₂, ◌∙◌}
use mathlib.Core.Logic.{dite}
use mathlib.Core.Bool.{not, ◌&&◌, and-false}
use mathlib.Core.List.{[], ◌∷◌}
use Prim.Native.Nat.{ℕ, ◌≤◌, ◌<◌}
use native.Mathlib.Decide.{ℕ_discrete}
use native.Mathlib.Omega.{arith}
use Rattle.std.specs.Prelude.{Some}
use borrow.Author.Tests.{le-leb, lt-leb, eq-eqb, ne_eqb}
use lib.Dec.{eqb, leb}
use Rattle.layout.specs.Refusal.{Tested, refused, row, first}
use Rattle.table.specs.Bytes.{no_miss, state_count, miss_entry, hit_entry}
use Rattle.table.specs.Rows.{entry_rows}
use Rattle.table.specs.declared.Moves.{Moves}
use Rattle.table.specs.Check.{miss_by}
use Rattle.table.proofs.Entries.moves.Goals.{After-pair-hit, Joined-miss, in-Some+else-self-next, in_default}
use Rattle.table.proofs.Entries.moves.Goals as goal

ruleset tests = (le-leb, lt-leb, eq-eqb, ne_eqb, and-false)

-- the rows over the numbers that were read
abbrev entry_over : (n miss hit : ℕ) → Tested
entry_over n miss hit = first (row 12 (leb n miss && not (eqb miss no_miss)) 0 ∷ row 12 (leb n hit) 0 ∷ [])

at_entry : (c : After-pair-hit) →
    let a = c.args in
    let b = a.self.bytes.now in
    entry_over a.self.states c.pair.result c.pair-hit.result ≡ first (entry_rows b a.state)
at_entry c =
    let e : c.args.self.states ≡ state_count c.args.self.bytes.now = c.args.self.counted in
    let f : c.pair.result ≡ miss_entry c.args.self.bytes.now c.args.state = c.pair.ensures in
    let g : c.pair-hit.result ≡ hit_entry c.args.self.bytes.now c.args.state = c.pair-hit.ensures in
    rw (e, f, g)

module _ (n miss hit : ℕ) where
  -- a state that a miss leads to isn't below n
  miss_above : (t : ℕ) → miss_by miss ≡ Some t → n ≤ t → refused 12 0 ≡ entry_over n miss hit
  unfolding first
  miss_above t e h =
      dite (ℕ_discrete miss no_miss)
      (λ q. let f = rw (eq-eqb _ _ q) at e in absurd (cc))
      (λ q. let f = rw (ne_eqb _ _ q) at e in let g : n ≤ miss = let z : miss ≡ t = cc in omega arith in search tests)

  -- each that a miss leads to is, so the hit decides
  miss_below : ((t : ℕ) → miss_by miss ≡ Some t → t < n) → entry_over n miss hit ≡ first (row 12 (leb n hit) 0 ∷ [])
  unfolding first
  miss_below k =
      dite (ℕ_discrete miss no_miss)
      (λ q. search tests)
      (λ q. let h : miss < n = k miss (rw (ne_eqb _ _ q)) in search tests)

pub returns-then-self-next : goal.returns-then-self-next
returns-then-self-next c =
    (miss_above c.args.self.states c.pair.result c.pair-hit.result c.in-Some.next (sym c.miss_of-miss.ensures ∙ c.in-Some.is) c.if-self-next.true ∙ at_entry (goal.at.returns-then-self-next c).After-pair-hit, tt)

-- where the miss was passed
kept : (c : Joined-miss) → (c.match-miss.miss ≡ miss_by c.pair.result) × ((t : ℕ) → miss_by c.pair.result ≡ Some t → t < c.args.self.states)
kept c =
    elim c.match-miss.branch [
      | in-Some+else-self-next w ↦ (w.miss-is ∙ sym w.in-Some.is ∙ c.miss_of-miss.ensures, λ t e. let q : w.in-Some.next ≡ t = cc in omega arith)
      | in_default w ↦ (w.miss-is ∙ c.miss_of-miss.ensures, λ t e. absurd (w.in_default.not-Some t (c.miss_of-miss.ensures ∙ e)))
    ]

pub returns-then-self-hit : goal.returns-then-self-hit
unfolding first
returns-then-self-hit c =
    let (_, k) = kept (goal.at.returns-then-self-hit c).Joined-miss in
    ((search tests) ∙ sym (miss_below c.args.self.states c.pair.result c.pair-hit.result k) ∙ at_entry (goal.at.returns-then-self-hit c).After-pair-hit, tt)

pub returns : goal.returns
unfolding first
returns c =
    let (e, k) = kept (goal.at.returns c).Joined-miss in (
      (search tests) ∙ sym (miss_below c.args.self.states c.pair.result c.pair-hit.result k) ∙ at_entry (goal.at.returns c).After-pair-hit,
      ap₂ {C = Moves} (λ m h. record { miss = m; hit = h }) (e ∙ ap miss_by c.pair.ensures) c.pair-hit.ensures,
    )
