-- All rows of RULES, Patterns to try that are marked proved, as one list under one claim: those on patterns come from `meaning`; the tables are shown here, by carrying the limit's histories to the states of its table, and the refusal by what the set keeps. The checker computes the tests. Assumes nothing.
use mathlib.Core.Path.{◌≡◌, refl, subst}
use mathlib.Core.Option.{some, none-ne-some}
use mathlib.Core.Bool.{Bool, true, false}
use mathlib.Core.List.{List, [], ◌∷◌, ◌++◌, map}
use Prim.Native.Nat.{ℕ, zero, suc, ◌%◌, ◌≤◌, ◌<◌}
use native.Mathlib.Omega.{arith}
use lib.Dec.{T}
use lib.ListN.{get_or, replicate}
use Rattle.layout.specs.Refusal.{refused, first}
use Rattle.machines.specs.Machine.{Machine, Walks}
use Rattle.machines.specs.Canonical.{Canonical}
use Rattle.machines.specs.Numbering.{place, FirstSeen, NumberedAtSight}
use Rattle.meaning.specs.declared.LimitSet.{LimitSet}
use Rattle.meaning.specs.Longest.{longest}
use Rattle.meaning.specs.Limit.{rule_from, RuleAllowed, Allowed}
use Rattle.meaning.specs.Sets.{limit_at, SetAllowed, KeptBy}
use Rattle.meaning.proofs.WorkedRows as meaning
use Rattle.meaning.proofs.WorkedRows.{alone, any_hit, row_hit, any_miss}
use Rattle.meaning.proofs.Nothing.{nothing_iff}
use Rattle.history.specs.History.{newest}
use Rattle.history.specs.MayMiss.{may_miss}
use Rattle.history.specs.Machine.{history_machine}
use Rattle.sets.specs.Bytes.{set_of, limits_in}
use Rattle.sets.specs.Rows.{limits_rows, set_rows}
use Rattle.sets.proofs.Numbers.{nothing_refused}
use Rattle.table.specs.Bytes.{machine_of, row_bytes, bytes_of}
use Rattle.table.specs.Rows.{entries_rows}
use Rattle.table.proofs.Checked.{checked_well_made}
use Rattle.printing.specs.Longest.{printed_longest}
use Rattle.demands.proofs.SmallMachines.{canonical_for_its_walks, one_state_canonical, test_differ, carries_test, canonical_for_kept}

-- a row on patterns, a set and the bytes of its table, or the bytes of a set that both editions refuse
pub data Claim : Type 0 where
  pattern : meaning.Row → Claim
  table : LimitSet → List ℕ → Claim
  refuses : List ℕ → (number at : ℕ) → Claim

abbrev pub Holds : Claim → Type 0
Holds (pattern r) = meaning.Holds r
Holds (table s b) = Canonical (machine_of b) (KeptBy s) × (bytes_of (machine_of b) ≡ b)
Holds (refuses b number at) = (first (set_rows longest b) ≡ refused number at) × (first (set_rows printed_longest b) ≡ refused number at)

abbrev pub All : List Claim → Type 0
All [] = Unit {0}
All (c ∷ claims) = Holds c × All claims

abbrev never : List ℕ
never = 0x00 ∷ 0x00 ∷ 0x00 ∷ 0x07 ∷ 0x01 ∷ 0x00 ∷ 0x01 ∷ 0xFF ∷ 0xFF ∷ 0x00 ∷ 0x00 ∷ []

abbrev after_two_hits : List ℕ
after_two_hits =
    0x00 ∷ 0x00 ∷ 0x00 ∷ 0x0F ∷ 0x01 ∷ 0x00 ∷ 0x03 ∷ 0x00 ∷ 0x01 ∷ 0x00 ∷ 0x00
    ∷ 0xFF ∷ 0xFF ∷ 0x00 ∷ 0x02 ∷ 0xFF ∷ 0xFF ∷ 0x00 ∷ 0x00 ∷ []

-- AnyMiss(12,12)
abbrev any_of_twelve : List ℕ
any_of_twelve = 0x00 ∷ 0x00 ∷ 0x00 ∷ 0x05 ∷ 0x01 ∷ 0x01 ∷ 0x02 ∷ 0x0C ∷ 0x0C ∷ []

abbrev pub tables : List Claim
tables =
    table (any_hit 1 1) never
    ∷ table (row_hit 3 5) never
    ∷ table (row_hit 2 4) after_two_hits
    ∷ table (any_miss 1 3) after_two_hits
    ∷ table (any_hit 2 3) after_two_hits
    ∷ []

abbrev pub rows : List Claim
rows = map pattern meaning.rows ++ (tables ++ refuses any_of_twelve 21 0 ∷ [])

rule_allowed : (kind x m : ℕ) → kind ≤ 2 → x ≤ suc m → RuleAllowed (suc m) (rule_from kind x (suc m))
rule_allowed zero x m h l = (omega arith, omega arith, omega arith)
rule_allowed (suc zero) x m h l = (omega arith, omega arith, omega arith)
rule_allowed (suc (suc zero)) x m h l = (omega arith, omega arith, omega arith)
rule_allowed (suc (suc (suc kind))) x m h l = absurd (omega arith)

alone_allowed : (kind x m : ℕ) → kind ≤ 2 → x ≤ suc m → SetAllowed (suc m) (alone kind x (suc m))
alone_allowed kind x m h l = record { some_limit = omega arith; eight_places = omega arith; each = each }
  where
    each : (i : ℕ) → i < 1 → Allowed (suc m) (limit_at (alone kind x (suc m)) i)
    each i g =
        let e : 0 ≡ i = omega arith in
        subst (λ z. Allowed (suc m) (limit_at (alone kind x (suc m)) z)) e
        (record { kind_known = omega arith; rule_allowed = rule_allowed kind x m h l; k_unused = λ e. absurd (omega arith) })

-- state 2 isn't seen before row 1 under a hit
two_seen : (r : ℕ) (x : Bool) → (machine_of after_two_hits).next r x ≡ some 2 → 3 ≤ place r x
two_seen zero false e = let z : ◌≡◌ {A = ℕ} 1 2 = cc in absurd (omega arith)
two_seen zero true e = let z : ◌≡◌ {A = ℕ} 0 2 = cc in absurd (omega arith)
two_seen (suc zero) false e = absurd (none-ne-some 2 e)
two_seen (suc zero) true e = omega arith
two_seen (suc (suc r)) x e = omega arith

after_two_hits_numbered : NumberedAtSight (machine_of after_two_hits)
after_two_hits_numbered = record { starts_at_0 = refl; seen = seen; in_order = in_order }
  where
    m : Machine
    m = machine_of after_two_hits

    seen : (t : ℕ) → 1 ≤ t → t < 3 → (s : ℕ) × (o : Bool) × FirstSeen m t s o
    seen zero h l = absurd (omega arith)
    seen (suc zero) h l = (0, false, record { row_before = omega arith; here = refl; none_before = λ r x b e. omega arith })
    seen (suc (suc zero)) h l = (1, true, record { row_before = omega arith; here = refl; none_before = λ r x b e. two_seen r x e })
    seen (suc (suc (suc t))) h l = absurd (omega arith)

    in_order : (t u s r : ℕ) (o x : Bool) → 1 ≤ t → t < u → u < 3 → FirstSeen m t s o → FirstSeen m u r x → place s o < place r x
    in_order t u s r o x h l b f g =
        let d : 1 ≡ t = omega arith in
        let e : u ≡ 2 = omega arith in
        let i = f.none_before 0 false (omega arith) (subst (λ z. m.next 0 false ≡ some z) d refl) in
        omega (arith, two_seen r x (subst (λ z. m.next r x ≡ some z) e g.here))

never_canonical : Canonical (machine_of never) (Walks (machine_of never))
unfolding first entries_rows
never_canonical = one_state_canonical (machine_of never) (checked_well_made never refl) refl refl

after_two_hits_canonical : Canonical (machine_of after_two_hits) (Walks (machine_of after_two_hits))
unfolding first entries_rows
after_two_hits_canonical =
    let m = machine_of after_two_hits in
    canonical_for_its_walks m (checked_well_made after_two_hits refl) after_two_hits_numbered
    (test_differ m (λ a. replicate a true ++ false ∷ []) tt)

-- the states of `after_two_hits`, by the two newest outcomes
abbrev newest_miss : ℕ → ℕ
newest_miss h = get_or (1 ∷ 2 ∷ 1 ∷ 0 ∷ []) (h % 4) 0

table_holds : (kind x m : ℕ) (b : List ℕ) (f : ℕ → ℕ) → kind ≤ 2 → x ≤ suc m → Canonical (machine_of b) (Walks (machine_of b))
    → bytes_of (machine_of b) ≡ b → T (carries_test (history_machine (alone kind x (suc m)) m) (machine_of b) f) → Holds (table (alone kind x (suc m)) b)
table_holds kind x m b f h l c e t = (canonical_for_kept (alone kind x (suc m)) m (machine_of b) f (alone_allowed kind x m h l) c t, e)

tables_hold : All tables
unfolding may_miss newest row_bytes
tables_hold =
    let a = table_holds 0 1 0 never (λ h. 0) (omega arith) (omega arith) never_canonical refl tt in
    let b = table_holds 1 3 4 never (λ h. 0) (omega arith) (omega arith) never_canonical refl tt in
    let c = table_holds 1 2 3 after_two_hits newest_miss (omega arith) (omega arith) after_two_hits_canonical refl tt in
    let d = table_holds 2 1 2 after_two_hits newest_miss (omega arith) (omega arith) after_two_hits_canonical refl tt in
    let e = table_holds 0 2 2 after_two_hits newest_miss (omega arith) (omega arith) after_two_hits_canonical refl tt in
    (a, (b, (c, (d, (e, tt)))))

refusal_holds : Holds (refuses any_of_twelve 21 0)
unfolding first limits_rows limits_in
refusal_holds =
    let n = (nothing_iff (set_of any_of_twelve)).0 tt in
    ((nothing_refused longest any_of_twelve).1 (refl, n), (nothing_refused printed_longest any_of_twelve).1 (refl, n))

all_both : (a b : List Claim) → All a → All b → All (a ++ b)
all_both [] b s t = t
all_both (c ∷ a) b (h, s) t = (h, all_both a b s t)

pub p_rows_hold : All rows
p_rows_hold = all_both (map pattern meaning.rows) (tables ++ refuses any_of_twelve 21 0 ∷ []) meaning.rows_hold (all_both tables (refuses any_of_twelve 21 0 ∷ []) tables_hold (refusal_holds, tt))
