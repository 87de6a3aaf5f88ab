-- A guard on the table built from a set: what it answers, where it stands, and when it is lost, by the patterns that the set keeps. Assumes nothing.
use mathlib.Core.Path.{◌≡◌, refl, sym, ap, ap₂, ◌∙◌, subst}
use mathlib.Core.Logic.{◌↔◌, ⊎_elim}
use mathlib.Core.Option.{Option, none, some}
use mathlib.Core.Bool.{Bool, true, false, true≢false}
use mathlib.Core.List.{List, [], ◌∷◌, ◌++◌, append_assoc, append-nil}
use Prim.Native.Nat.{ℕ, zero, suc, ◌+◌, ◌-◌, ◌≤◌, ◌<◌}
use native.Mathlib.Nat.{zero-add}
use native.Mathlib.Numerals.{add-one}
use native.Mathlib.Omega.{arith}
use lib.ListN.{length, replicate, length-replicate, replicate-append-replicate}
use Rattle.std.specs.Prelude.{Result, Ok}
use Rattle.layout.specs.declared.Refused.{Refused}
use Rattle.layout.specs.Refusal.{passed, first}
use Rattle.patterns.specs.Outcome.{outcome}
use Rattle.machines.specs.Machine.{Machine, walk, Can}
use Rattle.machines.proofs.Walk.{walk_after, walk_snoc}
use Rattle.meaning.specs.declared.LimitSet.{LimitSet}
use Rattle.meaning.specs.Longest.{longest}
use Rattle.meaning.specs.Window.{recent}
use Rattle.meaning.specs.Sets.{KeptBy}
use Rattle.meaning.proofs.MissMore.{recent_snoc}
use Rattle.meaning.proofs.Recent.{recent_last}
use Rattle.meaning.proofs.SetLaws.{kept_by_empty, kept_by_hit}
use Rattle.meaning.proofs.Search.{kept_by_dec}
use Rattle.history.proofs.Recent.{recent_leads, same_recent_leads}
use Rattle.sets.specs.Bytes.{set_of}
use Rattle.table.specs.Bytes.{state_count, machine_of}
use Rattle.table.specs.Rows.{look_rows}
use Rattle.table.proofs.Checked.{checked_looks}
use Rattle.guard.specs.declared.Guard.{Guard}
use Rattle.guard.specs.declared.Answer.{Answer}
use Rattle.guard.specs.declared.Answer.TheVariants as answer
use Rattle.guard.specs.Guard.{most_told, standing, fresh, AskedAs, latest}
use Rattle.guard.specs.Told.{after_all, told_all, heard}
use Rattle.guard.proofs.Latest.{latest_length, latest_whole}
use Rattle.guard.proofs.Heard.{heard_none, heard_next, heard_same}
use Rattle.guard.proofs.Walked.{count_all, told_walk, after_lost, lost_not_walked, told_then, Led}
use Rattle.guard.proofs.InTable.{told_heard, told_all_lem, never_leaves, answers_by_walk}
use Rattle.demands.specs.TableOf.{TableOf}
use Rattle.demands.specs.Guarding.{ByKept}
use Rattle.demands.proofs.Tables.{canonical_machine, made_allowed, made_canonical, made_checked, made_walk, made_walks_kept}

-- the last outcomes after as many hits are these hits
hits_recent : (p : List Bool) (k : ℕ) → recent (p ++ replicate k true) k ≡ replicate k true
hits_recent p zero = refl
hits_recent p (suc k) =
    let e : replicate (suc k) true ≡ replicate k true ++ true ∷ [] = ap (λ z. replicate z true) (sym (add-one k)) ∙ sym (replicate-append-replicate k 1 true) in
    ap (λ z. recent (p ++ z) (suc k)) e ∙ ap (λ z. recent z (suc k)) (sym (append_assoc p (replicate k true) (true ∷ [])))
    ∙ recent_snoc (p ++ replicate k true) true k ∙ ap (λ z. z ++ true ∷ []) (hits_recent p k) ∙ sym e

module _ (set b : List ℕ) (t : TableOf set b) where
  abbrev m : Machine
  m = machine_of b

  after_told : (told : List ℕ) → told_all b fresh told ≡ after_all m fresh (heard told)
  after_told = told_all_lem b (made_checked set b t)

  pub answers_by_meaning : (told : List ℕ) (r : Result Answer Refused) (g : Guard) → AskedAs b (told_all b fresh told) r g → ByKept (set_of set) (heard told) r
  answers_by_meaning told r g asked =
      let by = answers_by_walk b (made_checked set b t) told r g asked in
      let p = heard told in
      let q = heard told ++ false ∷ [] in
      record {
        normal = (λ e. let (c, d) = by.normal.0 e in ((kept p).0 c, (kept q).0 d), λ (k, n). by.normal.1 ((kept p).1 k, (kept q).1 n));
        panic = (
          λ e. let (c, n) = by.panic.0 e in record { kept = (kept p).0 c; miss_loses = λ k. n ((kept q).1 k) },
          λ z. by.panic.1 ((kept p).1 z.kept, λ c. z.miss_loses ((kept q).0 c)),
        );
        lost = (λ e k. by.lost.0 e ((kept p).1 k), λ n. by.lost.1 (λ c. n ((kept p).0 c)));
      }
    where
      kept : (p : List Bool) → Can m 0 p ↔ KeptBy (set_of set) p
      kept = made_walks_kept set b t

  -- an ask there has an answer
  can_be_asked : (told : List ℕ) → (r : Result Answer Refused) × AskedAs b (told_all b fresh told) r (told_all b fresh told)
  can_be_asked told = go g.lost (m.next g.state false) refl refl
    where
      g : Guard
      g = told_all b fresh told

      looks : passed ≡ first (look_rows b g.state)
      looks = sym (checked_looks b (made_checked set b t) g.state (subst (λ z. z.state < state_count b) (sym (after_told told)) (never_leaves b (made_checked set b t) (heard told))))

      go : (l : Bool) (miss : Option ℕ) → g.lost ≡ l → m.next g.state false ≡ miss → (r : Result Answer Refused) × AskedAs b g r g
      go true miss e f = (Ok answer.Lost, record { refusal = looks; answer = e; guard = refl })
      go false none e f = (Ok answer.Panic, record { refusal = looks; answer = (e, f); guard = refl })
      go false (some s) e f = (Ok answer.Normal, record { refusal = looks; answer = (e, (s, f)); guard = refl })

  pub kept_not_lost : (told : List ℕ) → KeptBy (set_of set) (heard told) → (told_all b fresh told).lost ≡ false
  kept_not_lost told k =
      let (s, e) = (made_walks_kept set b t (heard told)).1 k in
      ap (λ z. z.lost) (after_told told ∙ told_walk m 0 s fresh.outcomes 0 (heard told) e)

  not_lost_kept : (told : List ℕ) → (told_all b fresh told).lost ≡ false → KeptBy (set_of set) (heard told)
  not_lost_kept told e = go (kept_by_dec (set_of set) (heard told))
    where
      go : Dec (KeptBy (set_of set) (heard told)) → KeptBy (set_of set) (heard told)
      go (yes k) = k
      go (no n) =
          let l = (lost_not_walked m 0 fresh.outcomes 0 (heard told)).1 (λ c. n ((made_walks_kept set b t (heard told)).0 c)) in
          absurd (true≢false (sym l ∙ sym (ap (λ z. z.lost) (after_told told)) ∙ e))

  -- if no miss was told where ask says panic, every outcome heard is kept
  module _ (told : List ℕ) (met : (before after : List ℕ) (byte : ℕ) (r : Result Answer Refused) (g : Guard) → told ≡ before ++ (byte ∷ after) → AskedAs b (told_all b fresh before) r g → r ≡ Ok answer.Panic → outcome byte ≡ true) where
    keeps_on : (before after : List ℕ) (byte : ℕ) → told ≡ before ++ (byte ∷ after) → KeptBy (set_of set) (heard before) → KeptBy (set_of set) (heard (before ++ byte ∷ []))
    keeps_on before after byte e k =
        ⊎_elim (λ q. subst (KeptBy s) (sym q) k) (λ q. subst (KeptBy s) (sym q) (go (outcome byte) refl)) (heard_next 0 before byte)
      where
        s : LimitSet
        s = set_of set

        go : (o : Bool) → outcome byte ≡ o → KeptBy s (heard before ++ o ∷ [])
        go true f = kept_by_hit s (heard before) k
        go false f = by (kept_by_dec s (heard before ++ false ∷ []))
          where
            by : Dec (KeptBy s (heard before ++ false ∷ [])) → KeptBy s (heard before ++ false ∷ [])
            by (yes y) = y
            by (no n) =
                let (r, asked) = can_be_asked before in
                let p = (answers_by_meaning before r (told_all b fresh before) asked).panic.1 (record { kept = k; miss_loses = n }) in
                absurd (true≢false (sym (met before after byte r (told_all b fresh before) e asked p) ∙ f))

    pub heeded_kept : KeptBy (set_of set) (heard told)
    heeded_kept = go [] told (subst (KeptBy (set_of set)) (sym (heard_none 0)) (kept_by_empty (set_of set) longest (made_allowed set b t))) refl
      where
        go : (before rest : List ℕ) → KeptBy (set_of set) (heard before) → told ≡ before ++ rest → KeptBy (set_of set) (heard told)
        go before [] k e = subst (λ z. KeptBy (set_of set) (heard z)) (sym (e ∙ append-nil before)) k
        go before (byte ∷ rest) k e = go (before ++ byte ∷ []) rest (keeps_on before rest byte e k) (e ∙ sym (append_assoc before (byte ∷ []) rest))

  hits_kept : (p : List Bool) (k : ℕ) → KeptBy (set_of set) p → KeptBy (set_of set) (p ++ replicate k true)
  hits_kept p zero h = subst (KeptBy (set_of set)) (sym (append-nil p)) h
  hits_kept p (suc k) h = subst (KeptBy (set_of set)) (append_assoc p (true ∷ []) (replicate k true)) (hits_kept (p ++ true ∷ []) k (kept_by_hit (set_of set) p h))

  -- two kept patterns with the same last outcomes lead to one state, and the last outcomes of a kept pattern lead where it leads
  recent_leads_there : (p : List Bool) → KeptBy (set_of set) p → walk m 0 (recent p (longest - 1)) ≡ walk m 0 p
  recent_leads_there p k =
      made_walk set b t (recent p (longest - 1))
      ∙ recent_leads (set_of set) (longest - 1) (made_allowed set b t) (canonical_machine set b t) (made_canonical set b t) p k
      ∙ sym (made_walk set b t p)

  hits_lead_back : (p : List Bool) → KeptBy (set_of set) p → walk m 0 (p ++ replicate (longest - 1) true) ≡ some 0
  hits_lead_back p k =
      let ok = made_allowed set b t in
      let q = p ++ replicate (longest - 1) true in
      let none : recent [] (longest - 1) ≡ replicate (longest - 1) true = recent_last [] (longest - 1) ∙ append-nil (replicate (longest - 1) true) in
      made_walk set b t q
      ∙ same_recent_leads (set_of set) (longest - 1) ok (canonical_machine set b t) (made_canonical set b t) q [] (hits_kept p (longest - 1) k) (kept_by_empty (set_of set) longest ok) (hits_recent p (longest - 1) ∙ sym none)
      ∙ ap {B = Option ℕ} some (made_canonical set b t).starts_at_0

  -- where a guard that isn't lost stands
  module _ (told : List ℕ) (e : (told_all b fresh told).lost ≡ false) where
    stands_at : (s : ℕ) × (walk m 0 (heard told) ≡ some s) × (told_all b fresh told ≡ standing s (latest fresh.outcomes (heard told)) (0 + length (heard told)))
    stands_at =
        let (s, w) = (made_walks_kept set b t (heard told)).1 (not_lost_kept told e) in
        (s, w, after_told told ∙ told_walk m 0 s fresh.outcomes 0 (heard told) w)

    pub holds_recent : (told_all b fresh told).outcomes ≡ recent (heard told) (longest - 1)
    holds_recent = ap (λ z. z.outcomes) stands_at.2 ∙ sym (recent_last (heard told) (longest - 1))

    pub hits_bring_to_0 : (told_all b fresh told).count + (longest - 1) ≤ most_told → told_all b fresh (told ++ replicate (longest - 1) 1) ≡ standing 0 (replicate (longest - 1) true) ((told_all b fresh told).count + (longest - 1))
    hits_bring_to_0 room =
        let h = longest - 1 in
        let p = heard told in
        let g = told_all b fresh told in
        let hits = replicate h true in
        let (s, w, at) = stands_at in
        let os = latest fresh.outcomes p in
        let many : length hits ≡ length os = length-replicate h true ∙ sym (latest_length fresh.outcomes p) in
        let below : g.state < state_count b = subst (λ z. z.state < state_count b) (sym (after_told told)) (never_leaves b (made_checked set b t) p) in
        told_then b fresh told (replicate h 1)
        ∙ told_heard b (made_checked set b t) g (replicate h 1) below
        ∙ ap (after_all m g) (heard_same 1 (omega arith) g.count h room)
        ∙ ap (λ z. after_all m z hits) at
        ∙ told_walk m s 0 os (0 + length p) hits (sym (walk_after m 0 s p hits w) ∙ hits_lead_back p (not_lost_kept told e))
        ∙ ap₂ (standing 0) (latest_whole os hits many) (ap₂ (λ a c. a + c) (sym (ap (λ z. z.count) at)) (length-replicate h true))

  -- the count is of the outcomes heard, lost or not
  pub counts_heard : (told : List ℕ) → (told_all b fresh told).count ≡ length (heard told)
  counts_heard told = ap (λ z. z.count) (after_told told) ∙ count_all m fresh (heard told) ∙ zero-add (length (heard told))

  -- what a guard holds leads where it stands, lost or not, where some outcomes led it there
  module _ (g : Guard) (led : Led m 0 fresh.outcomes g) where
    pub outcomes_lead : walk m 0 g.outcomes ≡ some g.state
    outcomes_lead =
        let q = led.by in
        ap (walk m 0) (led.holds ∙ sym (recent_last q (longest - 1))) ∙ recent_leads_there q ((made_walks_kept set b t q).0 (g.state, led.leads)) ∙ led.leads

    pub outcomes_many : length g.outcomes ≡ longest - 1
    outcomes_many = ap length led.holds ∙ latest_length fresh.outcomes led.by

  -- where a kept pattern leads and a miss loses it, no miss is allowed
  pub miss_blocked : (q : List Bool) (s : ℕ) → walk m 0 q ≡ some s → (KeptBy (set_of set) (q ++ false ∷ []) → ⊥) → m.next s false ≡ none
  miss_blocked q s w n = go (m.next s false) refl
    where
      go : (x : Option ℕ) → m.next s false ≡ x → m.next s false ≡ none
      go none f = f
      go (some u) f = absurd (n ((made_walks_kept set b t (q ++ false ∷ [])).0 (u, walk_snoc m 0 s q false w ∙ f)))

  -- a guard that lost keeps the state and the outcomes from before the losing miss, whatever it is told after it
  pub lost_state : (told : List ℕ) (q r : List Bool) → heard told ≡ q ++ (false ∷ r) → KeptBy (set_of set) q → (KeptBy (set_of set) (q ++ false ∷ []) → ⊥)
      → ((told_all b fresh told).lost ≡ true) × (walk m 0 q ≡ some (told_all b fresh told).state) × ((told_all b fresh told).outcomes ≡ recent q (longest - 1))
  lost_state told q r e k n =
      let (s, w) = (made_walks_kept set b t q).1 k in
      let blocked = miss_blocked q s w n in
      let g = after_told told ∙ ap (after_all m fresh) e ∙ after_lost m 0 s fresh.outcomes 0 q r w blocked in
      (ap (λ z. z.lost) g, w ∙ ap {B = Option ℕ} some (sym (ap (λ z. z.state) g)), ap (λ z. z.outcomes) g ∙ sym (recent_last q (longest - 1)))
