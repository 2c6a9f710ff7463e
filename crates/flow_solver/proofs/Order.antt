-- The order of ways.
use Rattle.std.proofs.Common.{◌∙◌, inl, inr, ℕ, ◌+◌, ◌<◌, List, [], ◌∷◌, ◌++◌, refl, sym, ap, subst, arith}
use Rattle.std.proofs.lemmas.List.{length_push}
use Rattle.flow_solver.specs.Ways.{IsBefore, TurnsEarlier}
use Rattle.flow_solver.specs.Searched.{IsNotBehind}

earlier_further : (us vs xs ys : List ℕ) → TurnsEarlier us vs → TurnsEarlier (us ++ xs) (vs ++ ys)
earlier_further [] vs xs ys h = absurd h
earlier_further (u ∷ us) [] xs ys h = absurd h
earlier_further (u ∷ us) (v ∷ vs) xs ys (inl less) = inl less
earlier_further (u ∷ us) (v ∷ vs) xs ys (inr (same, h)) = inr (same, earlier_further us vs xs ys h)

earlier_last : (us : List ℕ) (t k : ℕ) → t < k → TurnsEarlier (us ++ t ∷ []) (us ++ k ∷ [])
earlier_last [] t k less = inl less
earlier_last (u ∷ us) t k less = inr (refl, earlier_last us t k less)

pub before_last : (us : List ℕ) (t k : ℕ) → t < k → IsBefore (us ++ t ∷ []) (us ++ k ∷ [])
before_last us t k less = inr (length_push us t ∙ sym (length_push us k), earlier_last us t k less)

pub before_further : (us vs : List ℕ) (t k : ℕ) → IsBefore us vs → IsBefore (us ++ t ∷ []) (vs ++ k ∷ [])
before_further us vs t k (inl less) = inl (omega (arith, length_push us t, length_push vs k))
before_further us vs t k (inr (same, h)) =
    inr (length_push us t ∙ ap (λ n. n + 1) same ∙ sym (length_push vs k), earlier_further us vs (t ∷ []) (k ∷ []) h)

pub none_before : (us : List ℕ) (k : ℕ) → IsBefore [] (us ++ k ∷ [])
none_before us k = inl (omega (arith, length_push us k))

earlier_trans : (us vs ws : List ℕ) → TurnsEarlier us vs → TurnsEarlier vs ws → TurnsEarlier us ws
earlier_trans [] vs ws h g = absurd h
earlier_trans (u ∷ us) [] ws h g = absurd h
earlier_trans (u ∷ us) (v ∷ vs) [] h g = absurd g
earlier_trans (u ∷ us) (v ∷ vs) (w ∷ ws) (inl a) (inl b) = inl (omega arith)
earlier_trans (u ∷ us) (v ∷ vs) (w ∷ ws) (inl a) (inr b) = inl (omega (arith, b.0))
earlier_trans (u ∷ us) (v ∷ vs) (w ∷ ws) (inr a) (inl b) = inl (omega (arith, a.0))
earlier_trans (u ∷ us) (v ∷ vs) (w ∷ ws) (inr a) (inr b) = inr (a.0 ∙ b.0, earlier_trans us vs ws a.1 b.1)

before_trans : (us vs ws : List ℕ) → IsBefore us vs → IsBefore vs ws → IsBefore us ws
before_trans us vs ws (inl a) (inl b) = inl (omega arith)
before_trans us vs ws (inl a) (inr b) = inl (omega (arith, b.0))
before_trans us vs ws (inr a) (inl b) = inl (omega (arith, a.0))
before_trans us vs ws (inr a) (inr b) = inr (a.0 ∙ b.0, earlier_trans us vs ws a.1 b.1)

pub not_behind_trans : (us vs ws : List ℕ) → IsNotBehind us vs → IsNotBehind vs ws → IsNotBehind us ws
not_behind_trans us vs ws (inl a) b = subst (λ xs. IsNotBehind xs ws) (sym a) b
not_behind_trans us vs ws (inr a) (inl b) = inr (subst (IsBefore us) b a)
not_behind_trans us vs ws (inr a) (inr b) = inr (before_trans us vs ws a b)

pub not_behind_further : (us vs : List ℕ) (t : ℕ) → IsNotBehind us vs → IsNotBehind (us ++ t ∷ []) (vs ++ t ∷ [])
not_behind_further us vs t (inl a) = inl (ap (λ xs. xs ++ t ∷ []) a)
not_behind_further us vs t (inr a) = inr (before_further us vs t t a)
