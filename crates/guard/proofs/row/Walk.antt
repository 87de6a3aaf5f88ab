-- What the walks of `row::start`, `row::ask` and `row::tell` share: the call of `refuses`, of which they know only its contract, and how a walk goes on after the branch on its answer.
-- Assumes nothing.
use mathlib.Core.Path.{◌≡◌, refl, sym, ap, subst}
use mathlib.Core.Bool.{Bool, true, false, not}
use mathlib.Core.List.{[], ◌∷◌, List}
use Prim.Native.Nat.{ℕ, ◌<◌, ◌^◌}
use lib.Dec.{T as Holds}
use seplogic.Ra.Ura.{Ura}
use mir.Syntax.{Ty, Local, local, Opd, Place, Body, seq, call, w64}
use mir.Val.{Val, vbool, vint}
use base.Logic.{SProp, ent, snd∗, ex_e, id⊢}
use base.Fml.{ftrue}
use prog.Memory.{Memory}
use prog.Routine.{Routine}
use prog.Wp.{Env, Calls, Loops}
use types.Logic.{Logic, sem}
use contract.Monad.{Fun, fact}
use types.Kit.{Item, ‵, raw, ◌⊛◌, some, later, Post, Seq, lands, runs, ◌$◌, ◌∵◌, !, qed, move, drop, use1, split, join, pick, fjoin, frame, await, done}
use types.Run.{Opds}
use sound.WpLaws.{FmC}
use denote.Laws.{Is, shows}
use denote.Plain.{Boolean, uint_Makes}
use denote.Builtin.{usize}
use denote.Steps.{only, owned, peeks, heard, nothing}
use denote.Triple.Statement.{Contract, Triple}
use denote.Triple.Call.{calls_at}
use denote.Triple.Spec.{triple_of}
use denote.Triple.Clauses.{ensured, lasts}
use Rattle.guard.specs.Row.{most_guards, outside}
use Rattle.guard.specs.contracts.row.refuses as refuses
use Rattle.guard.proofs.row.refuses.Symbol.{name as #guard·row·refuses}

-- a function's locals, at their places
abbrev pub at_places : List Local → List ℕ → List (Ty × ℕ)
at_places [] places = []
at_places (l ∷ ls) [] = []
at_places (local τ h ∷ ls) (p ∷ places) = (τ, p) ∷ at_places ls places

pub is_true : (b : Bool) → Holds b → b ≡ true
is_true true h = refl
is_true false h = absurd h

pub is_false : (b : Bool) → Holds (not b) → b ≡ false
is_false true h = absurd h
is_false false h = refl

-- what `refuses` says of a row of n guards and a job
abbrev pub Refusing : ℕ → ℕ → Bool → Type 0
Refusing n job r = (r ≡ outside n job) × (r ≡ false → (job < n) × (job < most_guards))

module _ {M : Type 1} {𝓤 : Ura M} (𝓛 : Logic 𝓤) (mem : Memory → SProp 𝓤) (run : Routine → Fun 𝓤) where
  -- the contract that the walks cite
  open 𝓛 use {H}

  abbrev pub Refuses : Contract 𝓤
  Refuses = triple_of 𝓛 refuses.signature (refuses.spec 𝓛 mem run)

  module _ (n job : ℕ) where
    abbrev pub to_refuses : Refuses.Ghost
    to_refuses = ((tt, tt, tt, (n, (job, tt)), (vint w64 n ∷ [], (vint w64 job ∷ [], tt))), tt)

    goes_refuses : n < 2 ^ 64 → job < 2 ^ 64 → ent 𝓤 (sem 𝓛 ftrue) (Refuses.pre to_refuses)
    goes_refuses n_fits job_fits =
        qed 𝓛 (‵ ftrue ∷ []) ∵ nothing ! $ owned ! usize (Is usize) (uint_Makes 𝓛 w64) job _ (refl, job_fits) $ fjoin ! $
        owned ! usize (Is usize) (uint_Makes 𝓛 w64) n _ (refl, n_fits) $ fjoin ! $ move ! (1 ∷ 0 ∷ []) $ join ! $ frame ! $ done !

    -- of its `ensured`, the clause alone
    refuses_says : (r : Bool) → ent 𝓤 (ensured 𝓛 refuses.ended (refuses.clauses 𝓛 mem run) tt (n, (job, tt)) tt r) (fact 𝓤 (Refusing n job r))
    refuses_says r = ex_e 𝓤 _ (λ ws. snd∗ 𝓤 (sem 𝓛 (lasts refuses.ended tt (n, (job, tt)) ws)) (fact 𝓤 (Refusing n job r)))

    -- the call: its operands are n and the job, nothing of the context goes, and its answer is a bool that says what it ensures
    pub asks_refuses : {K : Type 0} {Γ : List (Item 𝓤)} {E : Env 𝓤 H} {C : Calls 𝓤 H} {Λ : Loops 𝓤 H} {q : Post 𝓤 H} {xs : List Opd} {d : Place} {rest : Body}
        → K → FmC 𝓤 H 𝓛.laws C → Triple 𝓤 (C #guard·row·refuses) Refuses → n < 2 ^ 64 → job < 2 ^ 64
        → Opds K 𝓛 (raw (Refuses.pre to_refuses) ∷ Γ) E xs (vint w64 n ∷ vint w64 job ∷ [])
        → ((r : Bool) → Refusing n job r → Seq K 𝓛 Γ (lands C Λ E d (vbool r) rest q))
        → Seq K 𝓛 Γ (runs C Λ E (seq (call #guard·row·refuses xs d) rest) q)
    asks_refuses {K} {Γ} {E} {C} {Λ} {q} {xs} {d} {rest} k fm known n_fits job_fits operands goes_on =
        nothing k $ use1 𝓛 (raw (Refuses.pre to_refuses)) (goes_refuses n_fits job_fits) $ calls_at k fm Refuses known to_refuses operands (λ v.
        use1 𝓛 (later (some (λ (r : Bool). (‵ ftrue ⊛ ‵ (Boolean.own_val r (v ∷ []))) ⊛ raw (ensured 𝓛 refuses.ended (refuses.clauses 𝓛 mem run) tt (n, (job, tt)) tt r)))) (id⊢ 𝓤 _) $ await k tt $ pick k (λ r.
        split k $ move k (1 ∷ []) $ use1 𝓛 (raw (fact 𝓤 (Refusing n job r))) (refuses_says r) $ heard k (Refusing n job r) (λ refusing. split k $ drop k $
        peeks k Boolean (Is Boolean) (shows 𝓛 Boolean) r (v ∷ []) (λ is.
        drop k $ subst (λ (u : Val). Seq K 𝓛 Γ (lands C Λ E d u rest q)) (sym (ap only is)) (goes_on r refusing)))))
