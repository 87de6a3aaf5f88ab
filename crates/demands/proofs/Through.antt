-- A guard through changes of the battery, on the table built from the set that its record carries: a change gives back the guard that was written, field for field, so a run with changes leaves the guard that the same tells without them leave. The same from any guard that outcomes led where it stands. By induction on the events. Assumes nothing.
use mathlib.Core.Path.{◌≡◌, refl, sym, ap, ap₂, subst}
use mathlib.Core.List.{List, [], ◌∷◌, ◌++◌}
use Prim.Native.Nat.{ℕ, suc, ◌≤◌}
use native.Mathlib.Omega.{arith}
use lib.ListN.{length, drop}
use lib.Seq.{take_at}
use Rattle.std.specs.Prelude.{Result, Ok}
use Rattle.layout.specs.declared.Refused.{Refused}
use Rattle.meaning.specs.Longest.{longest}
use Rattle.guard.specs.declared.Guard.{Guard}
use Rattle.table.specs.Bytes.{machine_of}
use Rattle.guard.specs.Guard.{fresh, told_of}
use Rattle.guard.specs.Told.{told_all}
use Rattle.guard.proofs.Walked.{Led, led_start, led_told}
use Rattle.carry.specs.Bytes.{new_version, carried, size_of, record_of}
use Rattle.carry.specs.Read.{guard_in, ReadBackAs}
use Rattle.carry.proofs.RoundTrip.{record_length}
use Rattle.carry.proofs.Back.{can_be_written, reads_back, carried_back}
use Rattle.demands.specs.TableOf.{TableOf}
use Rattle.demands.specs.Carrying.{Changed, Event, tells, changes, Through, told_in}
use Rattle.demands.proofs.Tables.{made_accepted, made_checked}
use Rattle.demands.proofs.Guarded.{outcomes_lead, outcomes_many}

module _ (set b : List ℕ) (t : TableOf set b) where
  -- outcomes led the guard where it stands, and it holds the last of them
  abbrev pub LedThere : Guard → Type 0
  LedThere g = Led (machine_of b) 0 fresh.outcomes g

  module _ (g : Guard) (led : LedThere g) where
    pub change_gives_back : (r : Result Guard Refused) → Changed set b g r → r ≡ Ok g
    change_gives_back r c =
        carried_back longest carried set g (outcomes_many set b t g led) refl b c.out c.out' c.size r (made_checked set b t) (outcomes_lead set b t g led) c.written c.back

    -- and with room for the record there is a change
    pub change_can_be_had : (out : List ℕ) → size_of carried set ≤ length out → Changed set b g (Ok g)
    change_can_be_had out room =
        let many = outcomes_many set b t g led in
        let accepted = made_accepted set b t in
        let r = record_of new_version carried set g in
        record {
          out = out;
          out' = r ++ drop (size_of carried set) out;
          size = size_of carried set;
          written = can_be_written longest carried set g many out accepted room;
          back =
              subst (λ z. ReadBackAs longest carried z b (Ok g)) (sym (take_at r (drop (size_of carried set) out) (size_of carried set) (record_length new_version carried set g many)))
              (reads_back longest carried set g many refl b accepted (made_checked set b t) (outcomes_lead set b t g led));
        }

  -- from there on
  pub through_told : (g : Guard) → LedThere g → (events : List Event) (h : Guard) → Through set b g events h → h ≡ told_all b g (told_in events)
  through_told g led [] h e = e
  through_told g led (tells byte ∷ events) h (r, g', answered, rest) =
      through_told (told_of b g byte) (led_told b 0 fresh.outcomes g (byte ∷ []) led) events h (subst (λ z. Through set b z events h) answered.guard rest)
  through_told g led (changes ∷ events) h (r, changed, rest) =
      through_told g led events h (subst (λ z. Through set b z events h) (ap guard_in (change_gives_back g led r changed)) rest)

  -- a guard that start gave, told any bytes
  pub led_from_start : (told : List ℕ) → LedThere (told_all b fresh told)
  led_from_start told = led_told b 0 fresh.outcomes fresh told (led_start (machine_of b) 0 fresh.outcomes 0)

-- a run can be cut before a tell: up to there it is a run too
pub through_cut : (set b : List ℕ) (g : Guard) (before after : List Event) (h : Guard) → Through set b g (before ++ after) h → (i : Guard) × Through set b g before i
through_cut set b g [] after h run = (g, refl)
through_cut set b g (tells byte ∷ before) after h (r, g', answered, rest) = let (i, cut) = through_cut set b g' before after h rest in (i, (r, g', answered, cut))
through_cut set b g (changes ∷ before) after h (r, changed, rest) = let (i, cut) = through_cut set b (guard_in r) before after h rest in (i, (r, changed, cut))

-- where bytes told are cut before a byte, so are the events before its tell
pub events_cut : (events : List Event) (before after : List ℕ) (byte : ℕ) → told_in events ≡ before ++ (byte ∷ after) → (es : List Event) × (fs : List Event) × (events ≡ es ++ (tells byte ∷ fs)) × (told_in es ≡ before)
events_cut [] [] after byte e = let z : 0 ≡ suc (length after) = ap length e in absurd (omega arith)
events_cut [] (x ∷ before) after byte e = let z : 0 ≡ suc (length (before ++ (byte ∷ after))) = ap length e in absurd (omega arith)
events_cut (changes ∷ events) before after byte e =
    let (es, fs, p, q) = events_cut events before after byte e in
    (changes ∷ es, fs, ap (λ z. changes ∷ z) p, q)
events_cut (tells x ∷ events) [] after byte e =
    let same : x ≡ byte = cc in
    ([], events, ap (λ z. tells z ∷ events) same, refl)
events_cut (tells x ∷ events) (y ∷ before) after byte e =
    let same : x ≡ y = cc in
    let rest : told_in events ≡ before ++ (byte ∷ after) = cc in
    let (es, fs, p, q) = events_cut events before after byte rest in
    (tells x ∷ es, fs, ap (λ z. tells x ∷ z) p, ap₂ (λ a c. a ∷ c) same q)
