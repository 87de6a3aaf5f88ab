-- What one more miss asks of the outcomes before it. A window is apart from the miss, and then nothing changed, or over it. Assumes nothing.
use mathlib.Core.Path.{◌≡◌, refl, sym, ap, ap₂, ◌∙◌, subst}
use mathlib.Core.Logic.{◌↔◌, ◌≢◌}
use mathlib.Core.Bool.{Bool, true, false, false≢true}
use mathlib.Core.List.{List, [], ◌∷◌, ◌++◌, append_assoc}
use Prim.Native.Nat.{ℕ, zero, suc, ◌+◌, ◌-◌, ◌≤◌}
use native.Mathlib.Nat.{zero-add, suc-add}
use native.Mathlib.Decide.{dec_le}
use native.Mathlib.Omega.{arith}
use lib.ListN.{length, get_or, replicate, length-append, length-replicate, get_or-eq_default, replicate-append-replicate}
use lib.Seq.{get_or-append_seam}
use lib.IntN.{ℤ, pos, negsuc, suc_ℤ, nat_abs, ◌+ℤ◌, ◌-ℤ◌, +ℤ_idr, +ℤ-suc_ℤ, suc_ℤ-+ℤ, +ℤ-neg_ℤ_cancel, -ℤ-+ℤ_cancel, ℤ_discrete}
use Rattle.meaning.specs.Limit.{any_hit, row_hit}
use Rattle.meaning.specs.Window.{around, window, recent}
use Rattle.meaning.specs.Holds.{hits, Run}
use Rattle.meaning.specs.Kept.{Kept}

pub sucℤ_sub : (i : ℤ) (n : ℕ) → suc_ℤ (i -ℤ pos (suc n)) ≡ i -ℤ pos n
sucℤ_sub i zero = sym (+ℤ-suc_ℤ i (negsuc zero))
sucℤ_sub i (suc n) = sym (+ℤ-suc_ℤ i (negsuc (suc n)))

pub recent_suc : (p : List Bool) (n : ℕ) → recent p (suc n) ≡ around p (pos (length p) -ℤ pos (suc n)) ∷ recent p n
recent_suc p n = ap {B = List Bool} (λ z. around p (pos (length p) -ℤ pos (suc n)) ∷ window (around p) z n) (sucℤ_sub (pos (length p)) n)

pub window_split : (s : ℤ → Bool) (i : ℤ) (n k : ℕ) → window s i (n + k) ≡ window s i n ++ window s (i +ℤ pos n) k
window_split s i zero k = ap₂ (λ a b. window s a b) (sym (+ℤ_idr i)) (zero-add k)
window_split s i (suc n) k =
    ap (λ z. window s i z) (suc-add n k)
    ∙ ap {B = List Bool} (λ z. s i ∷ z) (window_split s (suc_ℤ i) n k)
    ∙ ap {B = List Bool} (λ z. s i ∷ window s (suc_ℤ i) n ++ window s z k) (suc_ℤ-+ℤ i (pos n) ∙ sym (+ℤ-suc_ℤ i (pos n)))

pub window_after : (p : List Bool) (k n : ℕ) → length p ≤ n → window (around p) (pos n) k ≡ replicate k true
window_after p zero n h = refl
window_after p (suc k) n h = cc (get_or-eq_default p true {n = n} h, window_after p k (suc n) (omega arith))

get_d_other : (p : List Bool) (b : Bool) (n : ℕ) → n ≢ length p → get_or (p ++ b ∷ []) n true ≡ get_or p n true
get_d_other [] b zero h = absurd (h refl)
get_d_other [] b (suc n) h = refl
get_d_other (x ∷ p) b zero h = refl
get_d_other (x ∷ p) b (suc n) h = get_d_other p b n (λ e. h (ap suc e))

around_other : (p : List Bool) (b : Bool) (i : ℤ) → i ≢ pos (length p) → around (p ++ b ∷ []) i ≡ around p i
around_other p b (pos n) h = get_d_other p b n (λ e. h (ap pos e))
around_other p b (negsuc n) h = refl

pub window_before : (p : List Bool) (b : Bool) (n : ℕ) (i : ℤ) → i +ℤ pos n ≡ pos (length p) → window (around (p ++ b ∷ [])) i n ≡ window (around p) i n
window_before p b zero i e = refl
window_before p b (suc n) i e =
    cc (
      around_other p b i (λ f. let g : length p + suc n ≡ length p = ap nat_abs (ap (λ z. z +ℤ pos (suc n)) (sym f) ∙ e) in omega arith),
      window_before p b n (suc_ℤ i) (suc_ℤ-+ℤ i (pos n) ∙ sym (+ℤ-suc_ℤ i (pos n)) ∙ e),
    )

module _ (p : List Bool) where
  abbrev p' : List Bool
  p' = p ++ false ∷ []

  abbrev m : ℤ
  m = pos (length p)

  -- a window that has n outcomes before the miss and r after it
  over_at : (n r : ℕ) (i : ℤ) → i +ℤ pos n ≡ m → window (around p') i (n + suc r) ≡ window (around p) i n ++ (false ∷ replicate r true)
  over_at n r i e =
      window_split (around p') i n (suc r)
      ∙ ap₂ (λ a b. a ++ window (around p') b (suc r)) (window_before p false n i e) e
      ∙ ap₂ {C = List Bool} (λ a b. window (around p) i n ++ (a ∷ b)) (get_or-append_seam p false [] true)
      (window_after p' r (suc (length p)) (omega (arith, length-append p (false ∷ []))))

  pub data Near (i : ℤ) (k : ℕ) : Type 0 where
    apart : window (around p') i k ≡ window (around p) i k → Near i k
    over : (n r : ℕ) → k ≡ n + suc r → i +ℤ pos n ≡ m → Near i k

  near_step : (i : ℤ) (k : ℕ) → Dec (i ≡ m) → Near (suc_ℤ i) k → Near i (suc k)
  near_step i k (yes e) r = over zero k (omega arith) (+ℤ_idr i ∙ e)
  near_step i k (no h) (apart e) = apart (cc (around_other p false i h))
  near_step i k (no h) (over n r e f) = over (suc n) r (omega arith) (+ℤ-suc_ℤ i (pos n) ∙ sym (suc_ℤ-+ℤ i (pos n)) ∙ f)

  pub near : (i : ℤ) (k : ℕ) → Near i k
  near i zero = apart refl
  near i (suc k) = near_step i k (ℤ_discrete i m) (near (suc_ℤ i) k)

pub hits_append : (a b : List Bool) → hits (a ++ b) ≡ hits a + hits b
hits_append [] b = omega arith
hits_append (true ∷ a) b = let h = hits_append a b in omega arith
hits_append (false ∷ a) b = hits_append a b

pub hits_replicate : (n : ℕ) → hits (replicate n true) ≡ n
hits_replicate zero = refl
hits_replicate (suc n) = ap suc (hits_replicate n)

hits_cons : (a : Bool) (w : List Bool) → hits (a ∷ w) ≤ suc (hits w)
hits_cons true w = omega arith
hits_cons false w = omega arith

hits_recent : (p : List Bool) (r n : ℕ) → hits (recent p (r + n)) ≤ r + hits (recent p n)
hits_recent p zero n = rw zero-add (omega arith)
hits_recent p (suc r) n =
    rw (suc-add, recent_suc)
    (omega (arith, hits_recent p r n, hits_cons (around p (pos (length p) -ℤ pos (suc (r + n)))) (recent p (r + n))))

pub from_end : (p : List Bool) (i : ℤ) (n : ℕ) → i +ℤ pos n ≡ pos (length p) → window (around p) i n ≡ recent p n
from_end p i n e = ap (λ z. window (around p) z n) (sym (+ℤ-neg_ℤ_cancel i (pos n)) ∙ ap (λ z. z -ℤ pos n) e)

-- the last outcomes after one more
pub recent_snoc : (p : List Bool) (b : Bool) (n : ℕ) → recent (p ++ b ∷ []) (suc n) ≡ recent p n ++ b ∷ []
recent_snoc p b n =
    let q = p ++ b ∷ [] in
    let i = pos (length p) -ℤ pos n in
    let e : i +ℤ pos n ≡ pos (length p) = -ℤ-+ℤ_cancel (pos (length p)) (pos n) in
    let l : length q ≡ suc (length p) = omega (arith, length-append p (b ∷ [])) in
    let w : suc n ≡ n + 1 = omega arith in
    ap (λ z. window (around q) z (suc n)) (ap (λ z. pos z -ℤ pos (suc n)) l ∙ back (length p) n)
    ∙ ap (λ z. window (around q) i z) w
    ∙ window_split (around q) i n 1
    ∙ ap₂ (λ x y. x ++ window (around q) y 1) (window_before p b n i e) e
    ∙ ap {B = List Bool} (λ z. recent p n ++ (z ∷ [])) (get_or-append_seam p b [] true)
  where
    back : (m n : ℕ) → pos (suc m) -ℤ pos (suc n) ≡ pos m -ℤ pos n
    back m n = suc_ℤ-+ℤ (pos m) (negsuc n) ∙ sucℤ_sub (pos m) n

over_recent : (p : List Bool) (n r : ℕ) (i : ℤ) → i +ℤ pos n ≡ pos (length p) → window (around (p ++ false ∷ [])) i (n + suc r) ≡ recent p n ++ (false ∷ replicate r true)
over_recent p n r i e = over_at p n r i e ∙ ap (λ z. z ++ (false ∷ replicate r true)) (from_end p i n e)

-- the window of width k with n outcomes before the miss and r after it
pub over_width : (p : List Bool) (k n r : ℕ) (i : ℤ) → k ≡ n + suc r → i +ℤ pos n ≡ pos (length p) → window (around (p ++ false ∷ [])) i k ≡ recent p n ++ (false ∷ replicate r true)
over_width p k n r i e f = ap (λ z. window (around (p ++ false ∷ [])) i z) e ∙ over_recent p n r i f

-- One more miss under AnyHit(x, k): of all windows over the miss, the one that ends at it has the fewest hits.
module _ (x k : ℕ) (p : List Bool) (wide : 1 ≤ k) (kept : Kept (any_hit x k) p) where
  any_to : Kept (any_hit x k) (p ++ false ∷ []) → x ≤ hits (recent p (k - 1))
  any_to h =
      let i : ℤ = pos (length p) -ℤ pos (k - 1) in
      let q = over_width p k (k - 1) zero i (omega arith) (-ℤ-+ℤ_cancel (pos (length p)) (pos (k - 1))) in
      omega (arith, h i, ap hits q, hits_append (recent p (k - 1)) (false ∷ []))

  any_at : (i : ℤ) → x ≤ hits (recent p (k - 1)) → Near p i k → x ≤ hits (window (around (p ++ false ∷ [])) i k)
  any_at i h (apart e) = subst (λ z. x ≤ hits z) (sym e) (kept i)
  any_at i h (over n r e f) =
      let g : k - 1 ≡ r + n = omega arith in
      omega (arith, ap hits (over_width p k n r i e f), hits_append (recent p n) (false ∷ replicate r true), hits_replicate r, hits_recent p r n, ap (λ z. hits (recent p z)) g)

  pub miss_more_any : Kept (any_hit x k) (p ++ false ∷ []) ↔ (x ≤ hits (recent p (k - 1)))
  miss_more_any = (any_to, λ h i. any_at i h (near p i k))

pub run_before : (x : ℕ) (a w : List Bool) → Run x w → Run x (a ++ w)
run_before x a w (c, d, e) = (a ++ c, d, ap (λ z. a ++ z) e ∙ sym (append_assoc a c (replicate x true ++ d)))

pub run_after : (x : ℕ) (w b : List Bool) → Run x w → Run x (w ++ b)
run_after x w b (c, d, e) = (c, d ++ b, ap (λ z. z ++ b) e ∙ simp append_assoc)

pub run_hits : (x r : ℕ) → x ≤ r → Run x (replicate r true)
run_hits x r h =
    let g : r ≡ x + (r - x) = omega arith in
    ([], replicate (r - x) true, ap (λ z. replicate z true) g ∙ sym (replicate-append-replicate x (r - x) true))

run_recent : (x : ℕ) (p : List Bool) (r n : ℕ) → Run x (recent p n) → Run x (recent p (r + n))
run_recent x p zero n h = rw zero-add h
run_recent x p (suc r) n h = rw (suc-add, recent_suc) (run_before x (_ ∷ []) (recent p (r + n)) (run_recent x p r n h))

-- a run that starts at once does not reach past a miss
starts_left : (x : ℕ) (w z b : List Bool) → w ++ false ∷ z ≡ replicate x true ++ b → (c : List Bool) × (w ≡ replicate x true ++ c)
starts_left zero w z b e = (w, refl)
starts_left (suc x) [] z b e = let g : false ≡ true = cc in absurd (false≢true g)
starts_left (suc x) (a ∷ w) z b e =
    let g : w ++ false ∷ z ≡ replicate x true ++ b = cc in
    let (c, f) = starts_left x w z b g in
    (c, cc)

run_left : (y : ℕ) (w a b : List Bool) → w ++ false ∷ replicate y true ≡ a ++ (replicate (suc y) true ++ b) → Run (suc y) w
run_left y [] [] b e = let g : false ≡ true = cc in absurd (false≢true g)
run_left y [] (c ∷ a) b e =
    let g : replicate y true ≡ a ++ (replicate (suc y) true ++ b) = cc in
    absurd (omega (arith, ap length g, length-append a (replicate (suc y) true ++ b), length-append (replicate (suc y) true) b, length-replicate (suc y) true, length-replicate y true))
run_left y (d ∷ w) [] b e = let (c, f) = starts_left (suc y) (d ∷ w) (replicate y true) b e in ([], c, f)
run_left y (d ∷ w) (c ∷ a) b e =
    let g : w ++ false ∷ replicate y true ≡ a ++ (replicate (suc y) true ++ b) = cc in
    let (a₁, b₁, f) = run_left y w a b g in
    (d ∷ a₁, b₁, ap {B = List Bool} (λ z. d ∷ z) f)

-- One more miss under RowHit(x, k): the windows over the miss that hits after it can't repair all contain the last k - x outcomes before it.
module _ (x k : ℕ) (p : List Bool) (fits : x ≤ k) (kept : Kept (row_hit x k) p) where
  row_to : (y : ℕ) → x ≡ y → Kept (row_hit x k) (p ++ false ∷ []) → Run x (recent p (k - x))
  row_to zero e h = subst (λ z. Run z (recent p (k - x))) (sym e) ([], recent p (k - x), refl)
  row_to (suc y) e h =
      let i : ℤ = pos (length p) -ℤ pos (k - x) in
      let q = over_width p k (k - x) y i (omega arith) (-ℤ-+ℤ_cancel (pos (length p)) (pos (k - x))) in
      let (a, b, g) = h i in
      subst (λ z. Run z (recent p (k - x))) (sym e)
      (run_left y (recent p (k - x)) a b (sym q ∙ g ∙ ap (λ z. a ++ (replicate z true ++ b)) e))

  row_over : (n r : ℕ) → k ≡ n + suc r → Run x (recent p (k - x)) → Dec (x ≤ r) → Run x (recent p n ++ (false ∷ replicate r true))
  row_over n r e h (yes le) = run_before x (recent p n) (false ∷ replicate r true) (run_before x (false ∷ []) (replicate r true) (run_hits x r le))
  row_over n r e h (no nle) =
      let g : n ≡ (n - (k - x)) + (k - x) = omega arith in
      run_after x (recent p n) (false ∷ replicate r true)
      (subst (λ z. Run x (recent p z)) (sym g) (run_recent x p (n - (k - x)) (k - x) h))

  row_at : (i : ℤ) → Run x (recent p (k - x)) → Near p i k → Run x (window (around (p ++ false ∷ [])) i k)
  row_at i h (apart e) = subst (λ z. Run x z) (sym e) (kept i)
  row_at i h (over n r e f) =
      subst (λ z. Run x z)
      (sym (over_width p k n r i e f))
      (row_over n r e h (dec_le x r))

  pub miss_more_row : Kept (row_hit x k) (p ++ false ∷ []) ↔ Run x (recent p (k - x))
  miss_more_row = (row_to x refl, λ h i. row_at i h (near p i k))
