-- The words of a v line, one by one: what is left of them, behind the values so far, tells what the whole line tells. Assumes nothing.
use Prim.Native.Nat.{ℕ, ◌+◌, ◌-◌, ◌≤◌, ◌<◌}
use mathlib.Core.Bool.{Bool, true, false}
use mathlib.Core.List.{List, [], ◌∷◌}
use mathlib.Core.Path.{◌≡◌, refl, sym, ap, ◌∙◌}
use native.Mathlib.Omega.{arith}
use lib.Dec.{eqb}
use lib.ListN.{length, take, drop, drop_of_length-le}
use Rattle.std.specs.Prelude.{Option, Ok, Err}
use Rattle.std.specs.List.{list_all}
use Rattle.reply.specs.Reply.{Refusal, Reply, given, refused, ◌>>=◌}
use Rattle.text.specs.Text.{pieces, space, nonempty, words, up_to}
use Rattle.clauses.specs.Cnf.{Literal}
use Rattle.clauses.specs.Item.{item}
use Rattle.words.proofs.Parts.{no_words}
use Rattle.words.proofs.Pieces.{no_word_at, word_at}
use Rattle.answer_lines.specs.Values.{Values, unclosed, item_after, items_after}
use Rattle.answer_lines.specs.Lines.{Said, satisfied, item_line, values_after, line_after}
use Rattle.answer_lines.specs.Progress.{HoldsValues, HoldsSaid, Tells}
use Rattle.answer_lines.specs.declared.reader.Stage.{Stage}
use Rattle.answer_lines.specs.declared.reader.BadLine.{BadLine}

-- Values, as the lines say them.
unfoldable said : Reply Values → Reply Said
said (given vs) = given (satisfied vs)
said (refused r) = refused r

module _ (fault : Refusal) (variables rank_variables : ℕ) where
  said_items : (x : Reply Values) → ◌>>=◌ x (λ vs. given (satisfied vs)) ≡ said x
  unfolding said ◌>>=◌
  said_items (given vs) = refl
  said_items (refused r) = refl

  whole_line :
      (ls : List Literal) (w : List ℕ) (ws : List (List ℕ)) →
      line_after fault variables rank_variables (satisfied (unclosed ls)) (item_line (w ∷ ws))
      ≡ said (items_after fault variables rank_variables (unclosed ls) (w ∷ ws))
  unfolding line_after item_line values_after
  whole_line ls w ws = said_items (items_after fault variables rank_variables (unclosed ls) (w ∷ ws))

  rest_given : (vs : Values) → given vs ≡ items_after fault variables rank_variables vs []
  unfolding items_after
  rest_given vs = refl

  told_at_last :
      (u : Unit {0}) (stage : Stage) (table : List (Option Bool)) (vs : Values) → HoldsValues vs stage table → (x : Reply Values) → given vs ≡ x →
      Tells HoldsSaid fault (said x) (Ok u) stage table
  unfolding said
  told_at_last u stage table vs held x e = rw (← e) held

  -- The words of a line that are left at a place: all of them as long as none was found, and there is one where one was found.
  abbrev Read : (found : Bool) → (left all : List (List ℕ)) → Type 0
  Read true left all = (w : List ℕ) × (ws : List (List ℕ)) × (all ≡ w ∷ ws)
  Read false left all = left ≡ all

  read_gap : (found : Bool) (all : List (List ℕ)) {left left' : List (List ℕ)} → left ≡ left' → Read found left all → Read found left' all
  read_gap true all e r = r
  read_gap false all e r = sym e ∙ r

  read_word : (found : Bool) (all : List (List ℕ)) {left : List (List ℕ)} (w : List ℕ) (ws : List (List ℕ)) → left ≡ w ∷ ws → Read found left all → Read true ws all
  read_word true all w ws e r = r
  read_word false all w ws e r = (w, ws, sym r ∙ e)

  module _ (items : List ℕ) (ls : List Literal) where
    -- "one or more items"
    pub no_item :
        (bad : BadLine) (stage : Stage) (table : List (Option Bool)) → list_all space items ≡ true →
        Tells HoldsSaid fault (line_after fault variables rank_variables (satisfied (unclosed ls)) (item_line (words space items))) (Err bad) stage table
    unfolding line_after item_line
    no_item bad stage table e = rw (no_words space items e) refl

    -- From place `at` of the items on, the stage and the table hold values behind which the line goes on; `found` says whether it had an item.
    pub record Behind (found : Bool) (stage : Stage) (table : List (Option Bool)) (at : ℕ) : Type 0 where
      pub values : Values
      pub held : HoldsValues values stage table
      pub rest :
          items_after fault variables rank_variables values (words space (drop at items))
          ≡ items_after fault variables rank_variables (unclosed ls) (words space items)
      pub read : Read found (words space (drop at items)) (words space items)

    pub at_first : (stage : Stage) (table : List (Option Bool)) → HoldsValues (unclosed ls) stage table → Behind false stage table 0
    at_first stage table held = record { values = unclosed ls; held = held; rest = refl; read = refl }

    module _ {found : Bool} (stage : Stage) (table : List (Option Bool)) (at : ℕ) (b : Behind found stage table at) where
      module _ (end : ℕ) (here : at < length items) (next : end ≡ at + up_to (λ b. eqb b 32) (drop at items)) where
        pub behind_gap : end ≤ at → Behind found stage table (end + 1)
        unfolding space
        behind_gap short =
            let same = no_word_at space items at end here next (omega arith) in
            record {
              values = b.values;
              held = b.held;
              rest = ap (items_after fault variables rank_variables b.values) (sym same) ∙ b.rest;
              read = read_gap found (words space items) same b.read;
            }

        module _ (long : at < end) where
          abbrev word : List ℕ
          word = take (end - at) (drop at items)

          is_next : words space (drop at items) ≡ word ∷ words space (drop (end + 1) items)
          unfolding space
          is_next = word_at space items at end here next long

          one_word :
              ◌>>=◌ (item_after fault rank_variables b.values (item variables word))
              (λ vs. items_after fault variables rank_variables vs (words space (drop (end + 1) items)))
              ≡ items_after fault variables rank_variables (unclosed ls) (words space items)
          unfolding items_after
          one_word = ap (items_after fault variables rank_variables b.values) (sym is_next) ∙ b.rest

          now_found : Read true (words space (drop (end + 1) items)) (words space items)
          now_found = read_word found (words space items) word (words space (drop (end + 1) items)) is_next b.read

          -- The word was taken, or the line is bad.
          module _ (stage' : Stage) (table' : List (Option Bool)) where
            pub behind_word :
                (u : Unit {0}) → Tells HoldsValues fault (item_after fault rank_variables b.values (item variables word)) (Ok u) stage' table' →
                Behind true stage' table' (end + 1)
            unfolding ◌>>=◌
            behind_word u t = go (item_after fault rank_variables b.values (item variables word)) t one_word
              where
                go :
                    (x : Reply Values) → Tells HoldsValues fault x (Ok u) stage' table' →
                    ◌>>=◌ x (λ vs. items_after fault variables rank_variables vs (words space (drop (end + 1) items)))
                    ≡ items_after fault variables rank_variables (unclosed ls) (words space items) →
                    Behind true stage' table' (end + 1)
                go (given vs) t e = record { values = vs; held = t; rest = e; read = now_found }
                go (refused r) t e = absurd t

            pub word_bad :
                (bad : BadLine) → Tells HoldsValues fault (item_after fault rank_variables b.values (item variables word)) (Err bad) stage' table' →
                Tells HoldsSaid fault (line_after fault variables rank_variables (satisfied (unclosed ls)) (item_line (words space items))) (Err bad) stage' table'
            unfolding ◌>>=◌ said
            word_bad bad t =
                let (w, ws, e) = now_found in
                rw e (go w ws (item_after fault rank_variables b.values (item variables word)) t (rw e at one_word))
              where
                go :
                    (w : List ℕ) (ws : List (List ℕ)) (x : Reply Values) → Tells HoldsValues fault x (Err bad) stage' table' →
                    ◌>>=◌ x (λ vs. items_after fault variables rank_variables vs (words space (drop (end + 1) items)))
                    ≡ items_after fault variables rank_variables (unclosed ls) (w ∷ ws) →
                    Tells HoldsSaid fault (line_after fault variables rank_variables (satisfied (unclosed ls)) (item_line (w ∷ ws))) (Err bad) stage' table'
                go w ws (given vs) t e = absurd t
                go w ws (refused r) t e = rw (whole_line ls w ws, ← e) t

      module _ (over : length items ≤ at) where
        none_left : words space (drop at items) ≡ []
        unfolding words pieces nonempty
        none_left = ap (words space) (drop_of_length-le items over)

        -- No word is left: the line has been told, or it had none.
        pub line_told :
            (u : Unit {0}) → found ≡ true →
            Tells HoldsSaid fault (line_after fault variables rank_variables (satisfied (unclosed ls)) (item_line (words space items))) (Ok u) stage table
        line_told u some = go found some b.read
          where
            last : given b.values ≡ items_after fault variables rank_variables (unclosed ls) (words space items)
            last = rest_given b.values ∙ ap (items_after fault variables rank_variables b.values) (sym none_left) ∙ b.rest

            go :
                (f : Bool) → f ≡ true → Read f (words space (drop at items)) (words space items) →
                Tells HoldsSaid fault (line_after fault variables rank_variables (satisfied (unclosed ls)) (item_line (words space items))) (Ok u) stage table
            go true e (w, ws, is) =
                rw (is, whole_line ls w ws) (told_at_last u stage table b.values b.held (items_after fault variables rank_variables (unclosed ls) (w ∷ ws)) (rw is at last))
            go false e r = cc

        pub line_empty :
            (bad : BadLine) → found ≡ false →
            Tells HoldsSaid fault (line_after fault variables rank_variables (satisfied (unclosed ls)) (item_line (words space items))) (Err bad) stage table
        unfolding line_after item_line
        line_empty bad none = go found none b.read
          where
            go :
                (f : Bool) → f ≡ false → Read f (words space (drop at items)) (words space items) →
                Tells HoldsSaid fault (line_after fault variables rank_variables (satisfied (unclosed ls)) (item_line (words space items))) (Err bad) stage table
            go true e r = cc
            go false e r = rw (sym r ∙ none_left) refl
