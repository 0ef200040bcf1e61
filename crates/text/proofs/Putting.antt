-- Text put into a slice piece by piece is the pieces joined and put at once.
use Prim.Native.Nat.{ℕ, suc, ◌+◌, ◌-◌, ◌≤◌, ◌<◌}
use mathlib.Core.Path.{◌≡◌, refl, sym, ap, subst, ◌∙◌}
use mathlib.Core.List.{List, [], ◌∷◌, ◌++◌, append_assoc, append-nil}
use native.Mathlib.Numerals.{add-one}
use native.Mathlib.Omega.{arith}
use borrow.Rule.Slice.PartMut.{put_mid}
use lib.ListN.{length, take, drop, get_or, set, length-append}
use lib.Seq.{sets, sets-eq, take-suc, length-take-le}
use Rattle.std.proofs.lemmas.List.{drop-drop, drop_all}
use Rattle.text.specs.Lines.{Put}
use Rattle.text.specs.Numbers.{hex_word, separator_after, words_to}

pub sets_append : (xs ys l : List ℕ) (i : ℕ) → sets l i (xs ++ ys) ≡ sets (sets l i xs) (i + length xs) ys
sets_append [] ys l i = ap (λ (k : ℕ). sets l k ys) (omega arith)
sets_append (x ∷ xs) ys l i = sets_append xs ys (set l i x) (suc i) ∙ ap (λ (k : ℕ). sets (sets (set l i x) (suc i) xs) k ys) (omega arith)

-- one more byte of the text
pub put_more : (text out : List ℕ) (at i : ℕ) → i < length text
    → set (sets out at (take i text)) (at + i) (get_or text i 0) ≡ sets out at (take (i + 1) text)
put_more text out at i h =
    sym
    (ap (λ (k : ℕ). sets out at (take k text)) (add-one i)
    ∙ ap (sets out at) (take-suc text i 0 h)
    ∙ sets_append (take i text) (get_or text i 0 ∷ []) out at
    ∙ ap (λ (k : ℕ). set (sets out at (take i text)) (at + k) (get_or text i 0)) (length-take-le i text (omega arith)))

-- one text after the other
pub put_then : {xs ys l m n : List ℕ} {at mid end : ℕ} → Put xs l at m mid → Put ys m mid n end → Put (xs ++ ys) l at n end
put_then {xs} {ys} {l} {m} {n} {at} {mid} {end} p q =
    record {
      stored =
          q.stored
          ∙ ap (λ (k : ℕ). sets m k ys) p.ended
          ∙ ap (λ (k : List ℕ). sets k (at + length xs) ys) p.stored
          ∙ sym (sets_append xs ys l at);
      ended = omega (arith, length-append xs ys);
    }

-- a byte is stored
pub put_byte : (b : ℕ) (l : List ℕ) (at : ℕ) → Put (b ∷ []) l at (set l at b) (at + 1)
put_byte b l at = record { stored = refl; ended = refl }

-- a text that is known to be another
pub put_as : {xs ys l m : List ℕ} {at end : ℕ} → xs ≡ ys → Put xs l at m end → Put ys l at m end
put_as {xs} {ys} {l} {m} {at} {end} e p = subst (λ (t : List ℕ). Put t l at m end) e p

-- one more word with what stands after it
pub put_one_word : (ws : List ℕ) (i : ℕ) {l m n : List ℕ} {at end mid sep : ℕ}
    → Put (words_to ws i) l at m end → Put (hex_word (get_or ws i 0)) m end n mid → sep ≡ separator_after i (length ws)
    → Put (words_to ws (i + 1)) l at (set n mid sep) (mid + 1)
put_one_word ws i {n = n} {mid = mid} {sep = sep} p q e =
    put_as (ap (words_to ws) (sym (add-one i))) (put_then p (put_then q (put_as (ap (λ (s : ℕ). s ∷ []) e) (put_byte sep n mid))))

-- a text copied over the part of its length is put there
pub put_part : (text copied out : List ℕ) (at end : ℕ) → copied ≡ text → end ≡ at + length text → end ≤ length out
    → Put text out at (put_mid at (end - at) out copied) end
put_part text copied out at end same e fits =
    let n : end - at ≡ length text = omega arith in
    record {
      stored =
          ap (λ (l : List ℕ). put_mid at (end - at) out l) same
          ∙ ap (λ (k : ℕ). put_mid at k out text) n
          ∙ ap (λ (l : List ℕ). take at out ++ (text ++ l)) (drop-drop (length text) at out)
          ∙ sym (append_assoc (take at out) text (drop (at + length text) out))
          ∙ sym (sets-eq text out at (omega arith));
      ended = e;
    }

-- five bytes are stored
pub put_five : (a b c d e : ℕ) (l : List ℕ) (at : ℕ)
    → Put (a ∷ b ∷ c ∷ d ∷ e ∷ []) l at (set (set (set (set (set l at a) (at + 1) b) (at + 2) c) (at + 3) d) (at + 4) e) (at + 5)
put_five a b c d e l at =
    let i : at + 1 ≡ suc at = omega arith in
    let j : at + 2 ≡ suc (suc at) = omega arith in
    let k : at + 3 ≡ suc (suc (suc at)) = omega arith in
    let m : at + 4 ≡ suc (suc (suc (suc at))) = omega arith in
    record { stored = cc; ended = refl }

-- what was put over all that stood from a place on follows what stood before
pub put_last : {text out before after : List ℕ} {at end : ℕ} → Put text out at after end → take at out ≡ before → end ≡ length out → after ≡ before ++ text
put_last {text} {out} {before} {after} {at} {end} p e all =
    let ended : at + length text ≡ length out = omega (arith, p.ended) in
    p.stored
    ∙ sets-eq text out at (omega arith)
    ∙ ap (λ (l : List ℕ). take at out ++ text ++ l) (drop_all (at + length text) out (omega arith))
    ∙ append-nil (take at out ++ text)
    ∙ ap (λ (l : List ℕ). l ++ text) e
