-- A term stands at a place exactly if its bytes in prefix order stand there and each of its symbols is declared, with as many
-- arguments as its arity says. Assumes nothing.
use Prim.Native.Nat.{ℕ, suc, ◌+◌, ◌*◌, ◌-◌, ◌<◌, ◌≤◌}
use mathlib.Core.Bool.{◌&&◌}
use mathlib.Core.List.{List, [], ◌∷◌, ◌++◌}
use mathlib.Core.Path.{◌≡◌, refl, sym, ap, ap₂, subst, subst₂, ◌∙◌}
use native.Mathlib.Nat.{add-zero}
use native.Mathlib.Numerals.{add-one, add-two}
use native.Mathlib.Omega.{arith}
use lib.Dec.{T, eqb, ltb, ltb→lt, lt→ltb, eqb→eq, eqb_refl}
use lib.ListN.{length, get_or, take, drop, length-append, length-take, length-drop}
use lib.Seq.{drop-cons, take-add, take-take, drop-drop, take_at, drop_at, length-take-le}
use Rattle.term.specs.Term.{Term, Args, var, app, nil, cons, size, sizes, count, over, overs}
use Rattle.term.specs.Prefix.{prefix, prefixes}
use Rattle.term.specs.At.{At, ArgsAt, variable_at, symbol_at, none_at, and_at}
use Rattle.term.specs.Copied.{copied}
use Rattle.reply.proofs.Tests.{and_left, and_right, and_both}
use Rattle.term.proofs.At.{at_end_lem, args_count}
use Rattle.term.proofs.Copied.{copied_whole}

-- Two bytes a node.
mutual
  unfolding prefix size

  pub prefix_length : (t : Term) → length (prefix t) ≡ 2 * size t
  prefix_length (var x) = refl
  prefix_length (app f ts) = let r = prefixes_length ts in omega arith

  pub prefixes_length : (ts : Args) → length (prefixes ts) ≡ 2 * sizes ts
  prefixes_length nil = refl
  prefixes_length (cons t ts) = length-append (prefix t) (prefixes ts) ∙ (let r = prefix_length t in let rs = prefixes_length ts in omega arith)

two_bytes :
    (bytes : List ℕ) (u n : ℕ) → u + 1 < length bytes →
    take (suc (suc n)) (drop u bytes) ≡ get_or bytes u 0 ∷ get_or bytes (u + 1) 0 ∷ take n (drop (u + 2) bytes)
two_bytes bytes u n w =
    ap (take (suc (suc n)))
    (drop-cons bytes u 0 (omega arith) ∙ ap (λ (l : List ℕ). get_or bytes u 0 ∷ l) (drop-cons bytes (suc u) 0 (omega arith)))
    ∙ ap₂ (λ (i j : ℕ). get_or bytes u 0 ∷ get_or bytes i 0 ∷ take n (drop j bytes)) (sym (add-one u)) (sym (add-two u))

-- A text of so many bytes from u on is within the bytes.
within : (bytes : List ℕ) (u n : ℕ) (text : List ℕ) → take n (drop u bytes) ≡ text → length text ≡ n → n ≤ length bytes - u
within bytes u n text p q = omega (arith, simp (length-take, length-drop) at (ap length p))

-- A text in two parts is found part by part.
part_by_part :
    (l p q : List ℕ) (a b : ℕ) → take (a + b) l ≡ p ++ q → length p ≡ a → a ≤ length l → (take a l ≡ p) × (take b (drop a l) ≡ q)
part_by_part l p q a b e m w = (
  sym (take-take a (a + b) l (omega arith)) ∙ ap (take a) e ∙ take_at p q a m,
  sym (drop_at (take a l) (take b (drop a l)) a (length-take-le a l w)) ∙ ap (drop a) (sym (take-add a b l) ∙ e) ∙ drop_at p q a m,
)

module _ {bytes arities : List ℕ} where
  mutual
    unfolding prefix size

    bytes_at : {u : ℕ} {t : Term} {e : ℕ} → At bytes arities u t e → take (2 * size t) (drop u bytes) ≡ prefix t
    bytes_at (variable_at {u = u} w k b q) = two_bytes bytes u 0 w ∙ ap₂ (λ (i j : ℕ). i ∷ j ∷ []) k b
    bytes_at (symbol_at {u = u} {f = f} {ts = ts} w k b l h) =
        let many : 2 * suc (sizes ts) ≡ suc (suc (2 * sizes ts)) = omega arith in
        ap (λ (n : ℕ). take n (drop u bytes)) many
        ∙ two_bytes bytes u (2 * sizes ts) w
        ∙ ap₂ (λ (i j : ℕ). i ∷ j ∷ take (2 * sizes ts) (drop (u + 2) bytes)) k b
        ∙ ap (λ (l : List ℕ). 3 ∷ f ∷ l) (bytes_ats h)

    bytes_ats : {many u : ℕ} {ts : Args} {e : ℕ} → ArgsAt bytes arities many u ts e → take (2 * sizes ts) (drop u bytes) ≡ prefixes ts
    bytes_ats none_at = refl
    bytes_ats (and_at {u = u} {m = m} {t = t} {ts = ts} h hs) =
        let many : 2 * (size t + sizes ts) ≡ 2 * size t + 2 * sizes ts = omega arith in
        ap (λ (n : ℕ). take n (drop u bytes)) many
        ∙ take-add (2 * size t) (2 * sizes ts) (drop u bytes)
        ∙ ap₂ (λ (l r : List ℕ). l ++ r) (bytes_at h)
        (ap (take (2 * sizes ts)) (drop-drop (2 * size t) u bytes ∙ ap (λ (i : ℕ). drop i bytes) (sym (at_end_lem h))) ∙ bytes_ats hs)

  -- The bytes of a term that stands there are its nodes in prefix order.
  pub at_prefix : {u : ℕ} {t : Term} {e : ℕ} → At bytes arities u t e → take (e - u) (drop u bytes) ≡ prefix t
  at_prefix {u} {t} {e} h =
      let long : e - u ≡ 2 * size t = omega (arith, at_end_lem h) in
      ap (λ (n : ℕ). take n (drop u bytes)) long ∙ bytes_at h

  -- So they are what the copier lays down, where there is room.
  pub copied_prefix : {u : ℕ} {t : Term} {e : ℕ} (room : ℕ) → At bytes arities u t e → e - u ≤ room → copied bytes u e room ≡ prefix t
  copied_prefix {u} {t} {e} room h fits = copied_whole bytes u e room fits ∙ at_prefix h

  -- Its symbols are declared, each with as many arguments as its arity says.
  mutual
    unfolding over

    pub at_over : {u : ℕ} {t : Term} {e : ℕ} → At bytes arities u t e → T (over arities t)
    at_over (variable_at w k b q) = tt
    at_over (symbol_at {f = f} {ts = ts} w k b l h) =
        and_both (ltb f (length arities) && eqb (get_or arities f 0) (count ts)) (overs arities ts)
        (and_both (ltb f (length arities)) (eqb (get_or arities f 0) (count ts)) (lt→ltb f (length arities) l)
        (subst (λ (n : ℕ). T (eqb (get_or arities f 0) n)) (sym (args_count h)) (eqb_refl (get_or arities f 0))))
        (args_over h)

    pub args_over : {many u : ℕ} {ts : Args} {e : ℕ} → ArgsAt bytes arities many u ts e → T (overs arities ts)
    args_over none_at = tt
    args_over (and_at {t = t} {ts = ts} h hs) = and_both (over arities t) (overs arities ts) (at_over h) (args_over hs)

  mutual
    unfolding prefix size over count

    from_bytes : (t : Term) (u : ℕ) → T (over arities t) → take (2 * size t) (drop u bytes) ≡ prefix t → At bytes arities u t (u + 2 * size t)
    from_bytes (var x) u o p =
        let w : u + 1 < length bytes = omega (arith, within bytes u 2 (prefix (var x)) p refl) in
        let two = two_bytes bytes u 0 w in
        variable_at {x = x} w (cc) (cc) refl
    from_bytes (app f ts) u o p =
        let n : ℕ = sizes ts in
        let w : u + 1 < length bytes = omega (arith, within bytes u (2 * suc n) (prefix (app f ts)) p (prefix_length (app f ts))) in
        let many : 2 * suc n ≡ suc (suc (2 * n)) = omega arith in
        let two : take (2 * suc n) (drop u bytes) ≡ get_or bytes u 0 ∷ get_or bytes (u + 1) 0 ∷ take (2 * n) (drop (u + 2) bytes) =
        ap (λ (i : ℕ). take i (drop u bytes)) many ∙ two_bytes bytes u (2 * n) w
        in
        let declared = and_left (ltb f (length arities) && eqb (get_or arities f 0) (count ts)) (overs arities ts) o in
        let rest = all_from_bytes ts (u + 2) (and_right (ltb f (length arities) && eqb (get_or arities f 0) (count ts)) (overs arities ts) o) (cc) in
        let as_many : count ts ≡ get_or arities f 0 = sym (eqb→eq (get_or arities f 0) (count ts) (and_right (ltb f (length arities)) (eqb (get_or arities f 0) (count ts)) declared)) in
        let ends : u + 2 + 2 * n ≡ u + 2 * suc n = omega arith in
        symbol_at {f = f} w (cc) (cc) (ltb→lt f (length arities) (and_left (ltb f (length arities)) (eqb (get_or arities f 0) (count ts)) declared))
        (subst₂ (λ (i e : ℕ). ArgsAt bytes arities i (u + 2) ts e) as_many ends rest)

    all_from_bytes :
        (ts : Args) (u : ℕ) → T (overs arities ts) → take (2 * sizes ts) (drop u bytes) ≡ prefixes ts → ArgsAt bytes arities (count ts) u ts (u + 2 * sizes ts)
    all_from_bytes nil u o p = subst (λ (e : ℕ). ArgsAt bytes arities 0 u nil e) (sym (add-zero u)) none_at
    all_from_bytes (cons t ts) u o p =
        let n : ℕ = size t in
        let m : ℕ = sizes ts in
        let many : 2 * (n + m) ≡ 2 * n + 2 * m = omega arith in
        let w : 2 * n ≤ length (drop u bytes) = simp length-drop (omega (arith, within bytes u (2 * (n + m)) (prefixes (cons t ts)) p (prefixes_length (cons t ts)))) in
        let parts = part_by_part (drop u bytes) (prefix t) (prefixes ts) (2 * n) (2 * m) (ap (λ (i : ℕ). take i (drop u bytes)) (sym many) ∙ p) (prefix_length t) w in
        let ends : u + 2 * n + 2 * m ≡ u + 2 * (n + m) = omega arith in
        and_at (from_bytes t u (and_left (over arities t) (overs arities ts) o) parts.0)
        (subst (λ (e : ℕ). ArgsAt bytes arities (count ts) (u + 2 * n) ts e) ends
        (all_from_bytes ts (u + 2 * n) (and_right (over arities t) (overs arities ts) o) (ap (take (2 * m)) (sym (drop-drop (2 * n) u bytes)) ∙ parts.1)))

  -- A term over the declared symbols stands where its bytes do.
  pub prefix_at :
      (t : Term) (u : ℕ) → T (over arities t) → take (length (prefix t)) (drop u bytes) ≡ prefix t → At bytes arities u t (u + 2 * size t)
  prefix_at t u o p = from_bytes t u o (ap (λ (n : ℕ). take n (drop u bytes)) (sym (prefix_length t)) ∙ p)
