-- How far a buffer is filled, block by block. Assumes nothing.
use Prim.Native.Nat.{ℕ, zero, suc, ◌+◌, ◌-◌, ◌≤◌, ◌<◌}
use mathlib.Core.Bool.{Bool, true, false}
use mathlib.Core.List.{List, [], ◌∷◌, ◌++◌, append_assoc, append-nil, flatten}
use mathlib.Core.Option.{none, some}
use mathlib.Core.Path.{◌≡◌, refl, sym, ap, ap₂, ◌∙◌}
use native.Mathlib.Numerals.{add-one}
use native.Mathlib.Omega.{arith}
use lib.Dec.{leb}
use lib.ListN.{length, take, drop, get_elem?, length-append, length-drop}
use lib.Seq.{take_all}
use borrow.Author.Tests.{le-leb, lt-leb}
use borrow.Rule.Slice.PartMut.{mid_of, put_mid}
use Rattle.reply.specs.Reply.{given}
use Rattle.reply.specs.Lent.{laid}
use Rattle.text.specs.Laying.{Lays}
use Rattle.text.proofs.Laying.{lays_nothing, lays_as, lays_then, laid_remainder}
use Rattle.clauses.proofs.Lists.{flatten_append}
use Rattle.clause_file.specs.declared.Filled.{Filled}
use Rattle.clause_file.specs.Filling.{if_room, fitting, FilledWith}

pub fitting_next :
    (room : ℕ) (texts : List (List ℕ)) (i : ℕ) {text : List ℕ} → get_elem? texts i ≡ some text → 512 ≤ room →
    fitting room (drop i texts) ≡ text ∷ fitting (room - length text) (drop (suc i) texts)
unfolding fitting if_room
fitting_next room [] i e h = let z : ◌≡◌ {A = ℕ} 0 1 = cc in absurd (omega arith)
fitting_next room (x ∷ texts) zero {text} e h =
    let same : x ≡ text = cc in
    rw le-leb (ap₂ (λ (y z : List ℕ). y ∷ fitting (room - length z) texts) same same)
fitting_next room (x ∷ texts) (suc i) e h = fitting_next room texts i e h

pub fitting_short : (room : ℕ) (texts : List (List ℕ)) → room < 512 → fitting room texts ≡ []
unfolding fitting if_room
fitting_short room [] h = refl
fitting_short room (x ∷ texts) h = rw lt-leb

pub fitting_none : (room : ℕ) (texts : List (List ℕ)) (i : ℕ) → get_elem? texts i ≡ none → fitting room (drop i texts) ≡ []
unfolding fitting
fitting_none room [] zero e = refl
fitting_none room [] (suc i) e = refl
fitting_none room (x ∷ texts) zero e = let z : ◌≡◌ {A = ℕ} 0 1 = cc in absurd (omega arith)
fitting_none room (x ∷ texts) (suc i) e = fitting_none room texts i e

one_text : (text : List ℕ) → flatten (text ∷ []) ≡ text
unfolding flatten
one_text text = append-nil text

-- Some texts are laid, and those from `next` on are still to come.
pub record Reached (texts : List (List ℕ)) (first : ℕ) (before : List ℕ) (at next : ℕ) (after : List ℕ) : Type 0 where
  pub done : List (List ℕ)
  pub fits : fitting (length before) (drop first texts) ≡ done ++ fitting (length before - at) (drop next texts)
  pub number : next ≡ first + length done
  pub count : at ≡ length (flatten done)
  pub lays : Lays (flatten done) before at after

module _ (texts : List (List ℕ)) (first : ℕ) (before : List ℕ) where
  pub nothing_yet : Reached texts first before 0 first before
  unfolding flatten
  nothing_yet =
      record {
        done = [];
        fits = let same : length before ≡ length before - 0 = omega arith in ap (λ (room : ℕ). fitting room (drop first texts)) same;
        number = omega arith;
        count = refl;
        lays = lays_nothing before;
      }

  module _ {at next : ℕ} {between : List ℕ} (here : Reached texts first before at next between) where
    pub reached_within : at ≤ length before
    reached_within = let c = here.lays.count in omega arith

    remainder : length (mid_of at (length between - at) between) ≡ length before - at
    remainder = ap length (laid_remainder here.lays) ∙ length-drop at before

    -- The next text was laid behind them.
    pub one_more :
        {text after : List ℕ} {many : ℕ} → get_elem? texts next ≡ some text → 512 ≤ length (mid_of at (length between - at) between) →
        length text ≤ 512 → many ≡ length text → after ≡ laid (given text) (mid_of at (length between - at) between) →
        Reached texts first before (at + many) (next + 1) (put_mid at (length between - at) between after)
    unfolding laid
    one_more {text} {after} {many} there room small all e =
        record {
          done = here.done ++ (text ∷ []);
          fits = fits;
          number = rw length-append (omega (arith, here.number));
          count = omega (arith, here.count, ap length joined, length-append (flatten here.done) text);
          lays = lays_as (sym joined) (lays_then here.lays second);
        }
      where
        joined : flatten (here.done ++ (text ∷ [])) ≡ flatten here.done ++ text
        joined = flatten_append here.done (text ∷ []) ∙ ap (λ (l : List ℕ). flatten here.done ++ l) (one_text text)

        second : Lays text (mid_of at (length between - at) between) many after
        second =
            record {
              count = omega (arith, remainder);
              bytes =
                  e
                  ∙ ap₂ (λ (l : List ℕ) (n : ℕ). l ++ drop n (mid_of at (length between - at) between)) (sym (take_all many text (omega arith))) (sym all);
            }

        rest : fitting (length before - at - length text) (drop (suc next) texts) ≡ fitting (length before - (at + many)) (drop (next + 1) texts)
        rest =
            let left : length before - at - length text ≡ length before - (at + many) = omega arith in
            ap₂ (λ (r i : ℕ). fitting r (drop i texts)) left (sym (add-one next))

        fits : fitting (length before) (drop first texts) ≡ (here.done ++ (text ∷ [])) ++ fitting (length before - (at + many)) (drop (next + 1) texts)
        fits =
            here.fits
            ∙ ap (λ (l : List (List ℕ)). here.done ++ l) (fitting_next (length before - at) texts next there (omega (arith, remainder)) ∙ ap (λ (l : List (List ℕ)). text ∷ l) rest)
            ∙ sym (append_assoc here.done (text ∷ []) (fitting (length before - (at + many)) (drop (next + 1) texts)))

    -- No text was laid, and none is to come.
    pub no_more :
        {after : List ℕ} → fitting (length (mid_of at (length between - at) between)) (drop next texts) ≡ [] →
        after ≡ mid_of at (length between - at) between →
        FilledWith (fitting (length before) (drop first texts)) first (record { «length» = at; next = next }) before (put_mid at (length between - at) between after)
    unfolding laid
    no_more {after} ended e =
        record {
          count = here.count ∙ ap (λ (l : List (List ℕ)). length (flatten l)) (sym all);
          number = here.number ∙ ap (λ (l : List (List ℕ)). first + length l) (sym all);
          bytes = rw all bytes;
        }
      where
        all : fitting (length before) (drop first texts) ≡ here.done
        all = here.fits ∙ ap (λ (l : List (List ℕ)). here.done ++ l) (ap (λ (room : ℕ). fitting room (drop next texts)) (sym remainder) ∙ ended) ∙ append-nil here.done

        same : Lays (flatten here.done) before (at + 0) (put_mid at (length between - at) between after)
        same =
            lays_as (append-nil (flatten here.done))
            (rw e (lays_then here.lays (lays_nothing (mid_of at (length between - at) between))))

        bytes : put_mid at (length between - at) between after ≡ flatten here.done ++ drop (length (flatten here.done)) before
        bytes =
            let still : at + 0 ≡ length (flatten here.done) = omega (arith, here.count) in
            same.bytes
            ∙ ap (λ (n : ℕ). take n (flatten here.done) ++ drop n before) still
            ∙ ap (λ (l : List ℕ). l ++ drop (length (flatten here.done)) before) (take_all (length (flatten here.done)) (flatten here.done) (omega arith))

-- No more texts fit than there are, and some do where there is room for one.
pub fitting_few : (room : ℕ) (texts : List (List ℕ)) → length (fitting room texts) ≤ length texts
unfolding fitting if_room
fitting_few room [] = omega arith
fitting_few room (x ∷ texts) = go (leb 512 room) (fitting_few (room - length x) texts)
  where
    go : (t : Bool) → length (fitting (room - length x) texts) ≤ length texts → length (if_room t (x ∷ fitting (room - length x) texts)) ≤ suc (length texts)
    go true few = omega arith
    go false few = omega arith

pub fitting_some : (room : ℕ) (texts : List (List ℕ)) → 512 ≤ room → length (fitting room texts) ≡ 0 → length texts ≡ 0
unfolding fitting if_room
fitting_some room [] h e = refl
fitting_some room (x ∷ texts) h e = let some : length (x ∷ fitting (room - length x) texts) ≡ 0 = rw le-leb at e in absurd (omega arith)

-- The blocks from `first` on, in a buffer that was filled.
module _ (texts : List (List ℕ)) (first : ℕ) (before : List ℕ) {r : Filled} {after : List ℕ} (filled : FilledWith (fitting (length before) (drop first texts)) first r before after) where
  pub filled_within : first ≤ length texts → r.next ≤ length texts
  filled_within h = omega (arith, filled.number, fitting_few (length before) (drop first texts), length-drop first texts)

  pub filled_none : 512 ≤ length before → first ≤ length texts → r.next ≡ first → first ≡ length texts
  filled_none room h e =
      let none : length (fitting (length before) (drop first texts)) ≡ 0 = omega (arith, filled.number) in
      omega (arith, fitting_some (length before) (drop first texts) room none, length-drop first texts)

  pub filled_further : first ≤ r.next
  filled_further = omega (arith, filled.number)

  pub filled_bytes : r.«length» ≤ length after
  unfolding laid
  filled_bytes = omega (arith, filled.count, ap length filled.bytes, length-append (flatten (fitting (length before) (drop first texts))) (drop (length (flatten (fitting (length before) (drop first texts)))) before))
