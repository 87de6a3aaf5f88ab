-- A record of version 1 with the last eleven outcomes of a guard, read on the table built from its set. Where no window of the set has more than twelve jobs, what comes is the guard that was never switched off but for the outcomes that it holds: the older ones are hits, whatever they were. It stays so through every later tell and change, and every ask and tell answers the same. Where a window has more, the record is refused by 20. Assumes nothing.
use mathlib.Core.Path.{◌≡◌, refl, sym, ap, ap₂, subst, ◌∙◌}
use mathlib.Core.Option.{Option, none, some}
use mathlib.Core.Bool.{Bool, true, false}
use mathlib.Core.List.{List, [], ◌∷◌, ◌++◌, append_assoc, append-nil}
use Prim.Native.Nat.{ℕ, suc, ◌-◌}
use native.Mathlib.Omega.{arith}
use lib.ListN.{length, take, drop, replicate, length-append, length-replicate, length-drop, take-append-drop}
use lib.Seq.{drop_at}
use Rattle.std.specs.Prelude.{⊤, Result, Ok, Err}
use Rattle.layout.specs.declared.Refused.{Refused}
use Rattle.layout.specs.declared.Refused.TheVariants.{OldRecord}
use Rattle.layout.specs.Refusal.{Tested, passed, refused, first}
use Rattle.layout.proofs.Rows.{refused_before}
use Rattle.layout.proofs.Refusals.{same_answer}
use Rattle.patterns.specs.Outcome.{outcome}
use Rattle.machines.specs.Machine.{walk}
use Rattle.meaning.specs.Longest.{longest}
use Rattle.meaning.specs.Window.{recent}
use Rattle.meaning.specs.Sets.{SetAllowed, KeptBy}
use Rattle.meaning.proofs.Recent.{recent_last}
use Rattle.meaning.proofs.SetLaws.{kept_by_part}
use Rattle.history.proofs.Recent.{same_recent_leads}
use Rattle.compare.proofs.Back.{kept_by_hits_before}
use Rattle.sets.specs.Bytes.{set_of}
use Rattle.sets.specs.Rows.{set_rows}
use Rattle.table.specs.Bytes.{machine_of}
use Rattle.guard.specs.declared.Guard.{Guard}
use Rattle.guard.specs.declared.Answer.{Answer}
use Rattle.guard.specs.declared.Answer.TheVariants.{Normal, Panic, Lost}
use Rattle.guard.specs.Guard.{fresh, StandingBy, AskedAs, after_by, after, tell_rows, told_when, told_of, ToldAs}
use Rattle.guard.specs.Told.{told_all}
use Rattle.guard.proofs.Latest.{latest_whole}
use Rattle.guard.proofs.OneResult.{ask_one_result}
use Rattle.carry.specs.Bytes.{old_version, old_carried, carried}
use Rattle.carry.specs.Rows.{wider, version_rows}
use Rattle.carry.specs.Read.{guard_in, ReadBackAs}
use Rattle.carry.proofs.Accepted.{not_wider_allowed}
use Rattle.carry.proofs.OneResult.{read_back_one_result}
use Rattle.carry.proofs.RoundTrip.{record_too_wide}
use Rattle.carry.proofs.Back.{read_in_version}
use Rattle.flat.specs.declared.FloeStarted.{FloeStarted}
use Rattle.flat.specs.Flat.{FlatAnswer, flat_back}
use Rattle.demands.specs.TableOf.{TableOf}
use Rattle.demands.specs.Carrying.{Event, Through, told_in, with_last, old_record_of, Alike}
use Rattle.demands.proofs.Tables.{canonical_machine, made_accepted, made_allowed, made_canonical, made_checked, made_walk, made_walks_kept}
use Rattle.demands.proofs.Guarded.{outcomes_lead, outcomes_many}
use Rattle.demands.proofs.Through.{LedThere, through_told}

-- the last k outcomes of a list that ends with k
pub last_of : (x y : List Bool) (k : ℕ) → length y ≡ k → drop (length (x ++ y) - k) (x ++ y) ≡ y
last_of x y k e = drop_at x y (length (x ++ y) - k) (omega (arith, length-append x y))

recent_of : (x y : List Bool) (k : ℕ) → length y ≡ k → recent (x ++ y) k ≡ y
recent_of x y k e =
    recent_last (x ++ y) k
    ∙ ap (drop (length (x ++ y))) (sym (append_assoc (replicate k true) x y))
    ∙ drop_at (replicate k true ++ x) y (length (x ++ y)) (omega (arith, length-append (replicate k true) x, length-replicate k true, length-append x y))

-- Guards that differ in what they hold at the most.
abbrev holding : Guard → List Bool → Guard
holding g os = record { state = g.state; lost = g.lost; outcomes = os; count = g.count }

same_but : (g g' : Guard) → Alike g g' → holding g g'.outcomes ≡ g'
same_but g g' a =
    ap₂ {C = Guard} (λ s l. record { state = s; lost = l; outcomes = g'.outcomes; count = g.count }) a.state a.lost
    ∙ ap {B = Guard} (λ n. record { state = g'.state; lost = g'.lost; outcomes = g'.outcomes; count = n }) a.count

module _ (b : List ℕ) where
  alike_after : (g : Guard) (os : List Bool) (o : Bool) → Alike (after (machine_of b) g o) (after (machine_of b) (holding g os) o)
  alike_after g os o = go g.lost ((machine_of b).next g.state o)
    where
      go : (l : Bool) (x : Option ℕ) → let g₁ : Guard = record { state = g.state; lost = l; outcomes = g.outcomes; count = g.count } in Alike (after_by x g₁ o) (after_by x (holding g₁ os) o)
      go true x = record { state = refl; lost = refl; count = refl }
      go false none = record { state = refl; lost = refl; count = refl }
      go false (some t) = record { state = refl; lost = refl; count = refl }

  alike_told : (g g' : Guard) → Alike g g' → (byte : ℕ) → Alike (told_of b g byte) (told_of b g' byte)
  alike_told g g' a byte = subst (λ z. Alike (told_of b g byte) (told_of b z byte)) (same_but g g' a) (go (first (tell_rows b g byte)))
    where
      go : (t : Tested) → Alike (told_when t (machine_of b) g (outcome byte)) (told_when t (machine_of b) (holding g g'.outcomes) (outcome byte))
      go passed = alike_after g g'.outcomes (outcome byte)
      go (refused n v) = record { state = refl; lost = refl; count = refl }

  alike_told_all : (g g' : Guard) → Alike g g' → (bytes : List ℕ) → Alike (told_all b g bytes) (told_all b g' bytes)
  alike_told_all g g' a [] = a
  alike_told_all g g' a (byte ∷ bytes) = alike_told_all (told_of b g byte) (told_of b g' byte) (alike_told g g' a byte) bytes

  -- They hear the same.
  stands_alike : (miss : Option ℕ) (g : Guard) (os : List Bool) (a : Result Answer Refused) → StandingBy miss (holding g os) a → StandingBy miss g a
  stands_alike miss g os (Ok Normal) s = s
  stands_alike miss g os (Ok Panic) s = s
  stands_alike miss g os (Ok Lost) s = s
  stands_alike miss g os (Err e) s = s

  module _ (g g' : Guard) (a : Alike g g') where
    -- an ask of the one is an ask of the other
    pub asked_alike : (r : Result Answer Refused) (h' : Guard) → AskedAs b g' r h' → AskedAs b g r g
    asked_alike r h' asked =
        let q = subst (λ z. AskedAs b z r h') (sym (same_but g g' a)) asked in
        record { refusal = q.refusal; answer = stands_alike _ g g'.outcomes r q.answer; guard = refl }

    pub alike_asked : (r r' : Result Answer Refused) (h h' : Guard) → AskedAs b g r h → AskedAs b g' r' h' → r ≡ r'
    alike_asked r r' h h' asked asked' = (ask_one_result b g r r' h g asked (asked_alike r' h' asked')).0

    pub alike_tells : (byte : ℕ) (r r' : Result ⊤ Refused) (h h' : Guard) → ToldAs b g byte r h → ToldAs b g' byte r' h' → (r ≡ r') × Alike h h'
    alike_tells byte r r' h h' told told' =
        let q = subst (λ z. ToldAs b z byte r' h') (sym (same_but g g' a)) told' in (
          same_answer r r' (told.refusal ∙ sym q.refusal) (λ x y e f. refl),
          subst (λ z. Alike z h') (sym told.guard) (subst (Alike (told_of b g byte)) (sym told'.guard) (alike_told g g' a byte)),
        )

module _ (set b : List ℕ) (t : TableOf set b) (g : Guard) (led : LedThere set b t g) where
  abbrev older : List Bool
  older = take (length g.outcomes - old_carried) g.outcomes

  abbrev last : List Bool
  last = (with_last old_carried g).outcomes

  whole : older ++ last ≡ g.outcomes
  whole = take-append-drop (length g.outcomes - old_carried) g.outcomes

  last_many : length last ≡ old_carried
  last_many = length-drop (length g.outcomes - old_carried) g.outcomes ∙ omega (arith, outcomes_many set b t g led)

  -- what is held after reading
  abbrev pub held_again : List Bool
  held_again = replicate (carried - old_carried) true ++ last

  module _ (narrow : wider (suc old_carried) (set_of set) ≡ false) where
    allowed : SetAllowed (suc old_carried) (set_of set)
    allowed = not_wider_allowed longest (suc old_carried) (set_of set) (made_allowed set b t) narrow

    held_kept : KeptBy (set_of set) g.outcomes
    held_kept = (made_walks_kept set b t g.outcomes).0 (g.state, outcomes_lead set b t g led)

    again_kept : KeptBy (set_of set) held_again
    again_kept =
        kept_by_hits_before (set_of set) (carried - old_carried) last
        (kept_by_part (set_of set) older last [] (subst (KeptBy (set_of set)) (sym (ap (λ z. older ++ z) (append-nil last) ∙ whole)) held_kept))

    leads_again : walk (machine_of b) 0 held_again ≡ some g.state
    leads_again =
        made_walk set b t held_again
        ∙ same_recent_leads (set_of set) old_carried allowed (canonical_machine set b t) (made_canonical set b t) held_again g.outcomes again_kept held_kept
        (recent_of (replicate (carried - old_carried) true) last old_carried last_many ∙ sym (ap (λ z. recent z old_carried) (sym whole) ∙ recent_of older last old_carried last_many))
        ∙ sym (made_walk set b t g.outcomes)
        ∙ outcomes_lead set b t g led

    abbrev again : Guard
    again = holding g held_again

    -- There is such a reading, and no other.
    pub old_record_can_be_read : ReadBackAs longest carried (old_record_of set g) b (Ok again)
    old_record_can_be_read =
        read_in_version longest carried old_version old_carried set (with_last old_carried g) last_many (made_accepted set b t) narrow b (made_checked set b t) g.state leads_again

    pub old_record_gives : (back : Result Guard Refused) → ReadBackAs longest carried (old_record_of set g) b back → back ≡ Ok again
    old_record_gives back read = read_back_one_result longest carried (old_record_of set g) b back (Ok again) read old_record_can_be_read

    led_again : LedThere set b t again
    led_again = record {
      by = held_again;
      leads = leads_again;
      holds = let many : length held_again ≡ carried = omega (arith, length-append (replicate (carried - old_carried) true) last, last_many) in sym (latest_whole fresh.outcomes held_again many);
    }

    -- After later tells and changes it is still alike to the guard that was told the same and never switched off.
    pub old_record_goes_on : (back : Result Guard Refused) → ReadBackAs longest carried (old_record_of set g) b back → (later : List Event) (h : Guard) → Through set b (guard_in back) later h
        → Alike (told_all b g (told_in later)) h
    old_record_goes_on back read later h run =
        let from_again = subst (λ z. Through set b z later h) (ap guard_in (old_record_gives back read)) run in
        subst (Alike (told_all b g (told_in later))) (sym (through_told set b t again led_again later h from_again))
        (alike_told_all b g again (record { state = refl; lost = refl; count = refl }) (told_in later))

-- The boundary.
pub floe_old_record_gives : (set b : List ℕ) (t : TableOf set b) (g : Guard) → LedThere set b t g → wider (suc old_carried) (set_of set) ≡ false
    → (f : FloeStarted) → FlatAnswer (ReadBackAs longest carried (old_record_of set g) b) flat_back f → (f.refused ≡ 0) × Alike g f.guard
floe_old_record_gives set b t g led narrow f (back, read, e) =
    let same = e ∙ ap flat_back (old_record_gives set b t g led narrow back read) in
    (ap (λ z. z.refused) same, subst (Alike g) (sym (ap (λ z. z.guard) same)) (record { state = refl; lost = refl; count = refl }))

err_not_ok : {A : Type 0} {r : Refused} {x : A} → Err r ≡ Ok x → ⊥
err_not_ok e = cc

-- A set with a wider window: refused by 20, on every table.
pub old_record_too_wide : (set b : List ℕ) (g : Guard) → first (set_rows longest set) ≡ passed → wider (suc old_carried) (set_of set) ≡ true → length (with_last old_carried g).outcomes ≡ old_carried
    → (back : Result Guard Refused) → ReadBackAs longest carried (old_record_of set g) b back → back ≡ Err OldRecord
old_record_too_wide set b g accepted wide many back read =
    same_answer back (Err OldRecord)
    (read.refusal ∙ refused_before (version_rows longest old_version old_carried (old_record_of set g)) _ (record_too_wide longest old_version old_carried set (with_last old_carried g) accepted wide many))
    (λ x y e f. absurd (err_not_ok f))
