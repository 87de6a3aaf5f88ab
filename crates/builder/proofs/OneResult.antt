-- The builder's promise allows one result: past 8 the machine is canonical for the set's patterns, so its table is unique; before that no machine is asked for. Assumes nothing.
use mathlib.Core.Path.{◌≡◌, refl, sym, ap, ◌∙◌, subst}
use mathlib.Core.Logic.{dite}
use mathlib.Core.List.{List, [], ◌∷◌}
use Prim.Native.Nat.{ℕ}
use native.Mathlib.Decide.{dec_lt}
use native.Mathlib.Omega.{arith}
use lib.Seq.{ext_get_or}
use Rattle.std.specs.Prelude.{Result}
use Rattle.layout.specs.Refusal.{Tested, passed, refused, first}
use Rattle.layout.specs.declared.Refused.{Refused}
use Rattle.layout.specs.Write.{room_row, length_when, buffer_when, WrittenBy}
use Rattle.layout.proofs.Write.{written_by, written_one_result}
use Rattle.layout.proofs.Rows.{refused_before}
use Rattle.machines.specs.Machine.{Machine}
use Rattle.machines.specs.Canonical.{OneTable}
use Rattle.machines.proofs.Unique.{canonical_unique}
use Rattle.meaning.specs.Sets.{KeptBy}
use Rattle.sets.specs.Bytes.{set_of}
use Rattle.table.specs.Bytes.{bytes_of, size_of}
use Rattle.table.proofs.Bytes.{bytes_of_one_table}
use Rattle.classes.specs.Area.{area_size}
use Rattle.builder.specs.Build.{early_rows, build_rows, ClearedTo, WorkAfter, BuiltWith, BuiltAs}

cleared_once : (size : ℕ) (w a b : List ℕ) → ClearedTo size w a → ClearedTo size w b → a ≡ b
cleared_once size w a b f g =
    ext_get_or 0 a b (f.length_stays ∙ sym g.length_stays) (λ k l.
    dite (dec_lt k size) (λ h. f.zero k h ∙ sym (g.zero k h)) (λ h. f.beyond k (omega arith) ∙ sym (g.beyond k (omega arith))))

work_once : (widest : ℕ) (t : Tested) (w a b : List ℕ) → WorkAfter widest t w a → WorkAfter widest t w b → a ≡ b
work_once widest passed w a b f g = cleared_once (area_size widest) w a b f g
work_once widest (refused n v) w a b f g = f ∙ sym g

module _ (widest : ℕ) (set work table : List ℕ) where
  abbrev size : Machine → ℕ
  size k = size_of k.states

  abbrev answered : Machine → Tested
  answered k = first (build_rows widest set work table (size k))

  module _ (a b c d : List ℕ) (r t : Result ℕ Refused) (m n : Machine) (f : BuiltWith widest set work a table c r m) (g : BuiltWith widest set work b table d t n) where
    -- the answer and the table, where the second machine would have the first one write the same
    same_of : WrittenBy (build_rows widest set work table (size m)) (size m) (bytes_of m) table d t → (r ≡ t) × (a ≡ b) × (c ≡ d)
    same_of w =
        let (e, h) = written_one_result (build_rows widest set work table (size m)) (size m) (bytes_of m) table c d r t f.written w in
        (e, work_once widest (first (early_rows widest set work)) work a b f.work_after g.work_after, h)

    early_refused : (k v : ℕ) → first (early_rows widest set work) ≡ refused k v → (q : Machine) → answered q ≡ refused k v
    early_refused k v e q = refused_before (early_rows widest set work) (room_row table (size q) ∷ []) e

    once : (e : Tested) → first (early_rows widest set work) ≡ e → (r ≡ t) × (a ≡ b) × (c ≡ d)
    once (refused k v) e =
        let y = early_refused k v e n in
        same_of (written_by (build_rows widest set work table (size m)) (size m) (bytes_of m) table (refused k v) d t (early_refused k v e m)
        (g.written.answer ∙ y) (g.written.length_written ∙ ap (λ z. length_when z (size n)) y) (g.written.buffer ∙ ap (λ z. buffer_when z (size n) (bytes_of n) table) y))
    once passed e =
        let o : OneTable m n = canonical_unique m n (KeptBy (set_of set)) (KeptBy (set_of set)) (f.canonical e) (g.canonical e) (λ p. (λ k. k, λ k. k)) in
        let s : size n ≡ size m = ap size_of (sym o.states) in
        same_of (subst (λ z. WrittenBy (build_rows widest set work table z) z (bytes_of m) table d t) s
        (subst (λ z. WrittenBy (build_rows widest set work table (size n)) (size n) z table d t) (sym (bytes_of_one_table m n o)) g.written))

pub built_one_result : (widest : ℕ) (set work table a b c d : List ℕ) (r t : Result ℕ Refused) → BuiltAs widest set work a table c r → BuiltAs widest set work b table d t → (r ≡ t) × (a ≡ b) × (c ≡ d)
built_one_result widest set work table a b c d r t (m, f) (n, g) = once widest set work table a b c d r t m n f g (first (early_rows widest set work)) refl
