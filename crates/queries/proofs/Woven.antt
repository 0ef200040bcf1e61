-- The expansion of a body, with stops for parameters, is the words' own and their gaps with the trees between them.
use Prim.Native.Nat.{ℕ, zero, suc, ◌+◌, ◌*◌, ◌≤◌, ◌<◌}
use native.Mathlib.Omega.{arith}
use mathlib.Core.Path.{◌≡◌, refl, sym, ap, ap₂, ◌∙◌}
use mathlib.Core.Bool.{false}
use mathlib.Core.List.{List, [], ◌∷◌, ◌++◌, map, append-nil}
use lib.Dec.{T}
use lib.ListN.{length, take, drop, get_or, length-take, length-map, get_or-map}
use Rattle.model.specs.Words.{Class, empty, label, parameter, call, illegal, class_of, rank_of, is_parameter}
use Rattle.model.specs.Trees.{all, those, join, fold, fill, grow, is_legal, expand}
use Rattle.laws.specs.Formed.{Env, stack_of}
use Rattle.laws.proofs.Words.Lists.{all_cons, map_take, map_drop}
use Rattle.laws.proofs.Trees.Grown.{grown_word}
use Rattle.laws.proofs.Trees.Fills.{those_in, those_out, in_order, length_parameters_from}
use Rattle.laws.proofs.Trees.Expansion.{weave, fill_weave}
use Rattle.laws.proofs.Trees.Spread.{map_join}
use Rattle.std.proofs.lemmas.List.{map-append}
use Rattle.queries.specs.Pieces.{stopped, unstopped, up_to, past, past_all, gap_of, between, over}
use Rattle.queries.proofs.Stops.{Kind, param, word, kind, up_to_on, past_on, past_past_all, small_unstopped, gap_at}

-- words with k stops, and trees at the stops
abbrev woven : List ℕ → ℕ → List (List ℕ) → List ℕ
woven xs zero ts = up_to xs
woven xs (suc k) ts = up_to xs ++ (get_or ts 0 [] ++ woven (past xs) k (drop 1 ts))

woven_on : (w : ℕ) (xs : List ℕ) (k : ℕ) (ts : List (List ℕ)) → T (unstopped w) → woven (w ∷ xs) k ts ≡ w ∷ woven xs k ts
woven_on w xs zero ts t = up_to_on w xs t
woven_on w xs (suc k) ts t = ap₂ (λ l m. l ++ (get_or ts 0 [] ++ woven m k (drop 1 ts))) (up_to_on w xs t) (past_on w xs t)

weave_woven : (ts : List (List ℕ)) (ws : List ℕ) → T (all grown_word ws)
    → map stopped (weave (λ v. v) ts ws) ≡ woven (map stopped ws) (length (those is_parameter ws)) (map (map stopped) ts)
weave_woven ts [] t = refl
weave_woven ts (w ∷ ws) t = go (kind w (all_cons grown_word w ws t).0) (λ ts. weave_woven ts ws (all_cons grown_word w ws t).1)
  where
    go : Kind w → ((ts : List (List ℕ)) → map stopped (weave (λ v. v) ts ws) ≡ woven (map stopped ws) (length (those is_parameter ws)) (map (map stopped) ts))
        → map stopped (weave (λ v. v) ts (w ∷ ws)) ≡ woven (map stopped (w ∷ ws)) (length (those is_parameter (w ∷ ws))) (map (map stopped) ts)
    go (param e f) rec =
        let x : weave (λ v. v) ts (w ∷ ws) ≡ get_or ts 0 [] ++ weave (λ v. v) (drop 1 ts) ws = rw (e, weave) in
        ap (map stopped) x ∙ map-append stopped (get_or ts 0 []) (weave (λ v. v) (drop 1 ts) ws)
        ∙ ap₂ (λ l m. l ++ m) (sym (get_or-map (map stopped) ts 0 [])) (rec (drop 1 ts) ∙ ap (woven (map stopped ws) (length (those is_parameter ws))) (map_drop (map stopped) 1 ts))
        ∙ ap₂ (λ v k. woven (v ∷ map stopped ws) k (map (map stopped) ts)) (sym f) (ap length (sym (those_in is_parameter w ws e)))
    go (word e f h) rec =
        let x : weave (λ v. v) ts (w ∷ ws) ≡ w ∷ weave (λ v. v) ts ws = rw (e, weave) in
        ap (map stopped) x ∙ ap₂ (λ v l. v ∷ l) f (rec ts)
        ∙ sym (woven_on w (map stopped ws) (length (those is_parameter ws)) (map (map stopped) ts) (small_unstopped w h))
        ∙ ap₂ (λ v k. woven (v ∷ map stopped ws) k (map (map stopped) ts)) (sym f) (ap length (sym (those_out is_parameter w ws e)))

between_woven : (E : List (List ℕ)) (j c k : ℕ) (ts : List (List ℕ)) → c + k < 5 → between (gap_of E) (5 * j + c) k ts ≡ woven (past_all c (map stopped (get_or E j []))) k ts
between_woven E j c zero ts h = gap_at E j c (omega arith)
between_woven E j c (suc k) ts h =
    let n : suc (5 * j + c) ≡ 5 * j + suc c = omega arith in
    ap₂ (λ l m. l ++ (get_or ts 0 [] ++ m)) (gap_at E j c (omega arith))
    (ap (λ g. between (gap_of E) g k (drop 1 ts)) n ∙ between_woven E j (suc c) k (drop 1 ts) (omega arith)
    ∙ ap (λ xs. woven xs k (drop 1 ts)) (sym (past_past_all c (map stopped (get_or E j [])))))

join_two : (ts : List (List ℕ)) → length ts ≤ 2 → join ts ≡ get_or ts 0 [] ++ get_or (drop 1 ts) 0 []
join_two [] h = refl
join_two (a ∷ []) h = refl
join_two (a ∷ b ∷ []) h = ap (λ l. a ++ l) (append-nil b)
join_two (a ∷ b ∷ c ∷ ts) h = absurd (omega arith)

no_trees : (ts : List (List ℕ)) → length ts ≤ 0 → ts ≡ []
no_trees [] h = refl
no_trees (t ∷ ts) h = absurd (omega arith)

module _ (ranks : List ℕ) (E : List (List ℕ)) (env : Env ranks E) (small : (j : ℕ) → get_or ranks j 0 ≤ 4) (grown : (j : ℕ) → T (all grown_word (get_or E j [])))
    (none : (g : ℕ) → 1280 ≤ g → gap_of E g ≡ []) where
  over_call : (j : ℕ) (ts : List (List ℕ)) → map stopped (fill (λ v. v) ts (get_or E j [])) ≡ between (gap_of E) (5 * j) (get_or ranks j 0) (map (map stopped) ts)
  over_call j ts =
      let n : length (those is_parameter (get_or E j [])) ≡ get_or ranks j 0 = ap length (env j) ∙ length_parameters_from 1 (get_or ranks j 0) in
      let z : 5 * j + 0 ≡ 5 * j = omega arith in
      let s = small j in
      ap (map stopped) (fill_weave (λ v. v) ts (in_order 0 (get_or ranks j 0) (get_or E j []) (env j)))
      ∙ weave_woven ts (get_or E j []) (grown j)
      ∙ ap (λ k. woven (map stopped (get_or E j [])) k (map (map stopped) ts)) n
      ∙ sym (between_woven E j 0 (get_or ranks j 0) (map (map stopped) ts) (omega arith))
      ∙ ap (λ g. between (gap_of E) g (get_or ranks j 0) (map (map stopped) ts)) z

  over_two : (ts : List (List ℕ)) → length ts ≤ 2 → map stopped (join ts) ≡ between (gap_of E) 1280 2 (map (map stopped) ts)
  over_two ts h =
      map_join stopped ts ∙ join_two (map (map stopped) ts) (rw length-map h)
      ∙ sym (simp (none 1280 (omega arith), none 1281 (omega arith), none 1282 (omega arith), append-nil))

  over_grow : (r w : ℕ) (ts : List (List ℕ)) → T (is_legal r w) → length ts ≤ rank_of ranks w
      → map stopped (grow (λ v. v) E w ts) ≡ over (gap_of E) (rank_of ranks) w (map (map stopped) ts)
  over_grow r w ts t h = go (class_of w) refl
    where
      go : (c : Class) → class_of w ≡ c → map stopped (grow (λ v. v) E w ts) ≡ over (gap_of E) (rank_of ranks) w (map (map stopped) ts)
      go (call j) e = simp e (over_call j ts)
      go (parameter n) e = let z : ts ≡ [] = no_trees ts (simp e at h) in simp (e, z, none 1280 (omega arith))
      go empty e = let z : ts ≡ [] = no_trees ts (simp e at h) in simp (e, z, none 1280 (omega arith))
      go label e = simp e (ap (λ l. w ∷ l) (over_two ts (simp e at h)))
      go illegal e = let z : T false = simp e at t in absurd z

  -- the trees of a body's words
  stack_over : (r : ℕ) (ws : List ℕ) → T (all (is_legal r) ws) → map (map stopped) (stack_of ranks E ws []) ≡ fold (rank_of ranks) (over (gap_of E) (rank_of ranks)) ws []
  stack_over r [] t = refl
  stack_over r (w ∷ ws) t =
      let k = rank_of ranks w in
      let st = stack_of ranks E ws [] in
      let a = all_cons (is_legal r) w ws t in
      let rec = stack_over r ws a.1 in
      ap₂ (λ x ys. x ∷ ys)
      (over_grow r w (take k st) a.0 (rw length-take (omega arith))
      ∙ ap (over (gap_of E) (rank_of ranks) w) (map_take (map stopped) k st ∙ ap (take k) rec))
      (map_drop (map stopped) k st ∙ ap (drop k) rec)

  pub expand_over : (r : ℕ) (ws : List ℕ) → T (all (is_legal r) ws) → map stopped (expand ranks E ws) ≡ join (fold (rank_of ranks) (over (gap_of E) (rank_of ranks)) ws [])
  expand_over r ws t = map_join stopped (stack_of ranks E ws []) ∙ ap join (stack_over r ws t)
