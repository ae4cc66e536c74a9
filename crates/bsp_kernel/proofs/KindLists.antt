-- Kinds beside values.
use Rattle.std.proofs.Common.{◌≡◌, ◌≢◌, ◌&&◌, ℕ, Bool, true, false, List, [], ◌∷◌, length, refl, arith}
use Rattle.toml.specs.Data.{Data}
use Rattle.bsp_kernel.specs.declared.operands.Kind.{Kind}
use Rattle.bsp_kernel.specs.Shapes.{is_of_kind, are_of_kinds}

and_false : (b c : Bool) → false ≡ c → false ≡ (b && c)
and_false true c h = h
and_false false c h = refl

-- another number of values than kinds
pub are_of_kinds-other : (kinds : List Kind) (places : ℕ) (ds : List Data) → length kinds ≢ length ds → false ≡ are_of_kinds kinds places ds
are_of_kinds-other [] places [] other = absurd (other refl)
are_of_kinds-other [] places (d ∷ ds) other = refl
are_of_kinds-other (kind ∷ kinds) places [] other = refl
are_of_kinds-other (kind ∷ kinds) places (d ∷ ds) other =
    and_false (is_of_kind kind places d) (are_of_kinds kinds places ds) (are_of_kinds-other kinds places ds (λ same. other (omega (arith, same))))
