-- A part of a buffer that is read anew: what stands before it stays, and the bytes read stand behind that.
use Rattle.std.proofs.Common.{◌≡◌, ℕ, ◌+◌, ◌≤◌, List, ◌++◌, length, take, drop, ap, ◌∙◌, le_refl, drop_at, length-take-le}
use Rattle.std.proofs.lemmas.Slice.{take-put_mid_below}
use borrow.Rule.Slice.PartMut.{put_mid, post_of}
use lib.Seq.{take-add, take-append-le}

pub kept : (at k : ℕ) (xs part : List ℕ) → at ≤ length xs → take at (put_mid at k xs part) ≡ take at xs
kept at k xs part within = take-put_mid_below _ _ _ _ _ (le_refl at) within

pub grown : (at k n : ℕ) (xs part : List ℕ) → at ≤ length xs → n ≤ length part → take (at + n) (put_mid at k xs part) ≡ take at xs ++ take n part
grown at k n xs part within fits =
    let behind = post_of at k xs in
    take-add at n (put_mid at k xs part)
    ∙ ap (λ l. l ++ take n (drop at (put_mid at k xs part))) (kept at k xs part within)
    ∙ ap (λ l. take at xs ++ l) (ap (take n) (drop_at (take at xs) (part ++ behind) at (length-take-le at xs within)) ∙ take-append-le n part behind fits)
