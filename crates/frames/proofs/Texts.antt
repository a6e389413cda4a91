-- What the fields of each kind of frame say.
use Rattle.std.proofs.Common.{◌≡◌, ℕ, List, drop, Some, None, Ok, Err, Option, Result, sym, ap, ◌∙◌, arith}
use Rattle.std.proofs.lemmas.Bool.{cond-false, ne_eqb}
use Rattle.tables.specs.declared.refusal.Refusal.{Refusal}
use Rattle.tables.specs.declared.refusal.Refusal.TheVariants.{FieldValue}
use Rattle.tables.specs.declared.module.ModuleFlags.{ModuleFlags}
use Rattle.tables.specs.Kinds.{flags_of, given}
use Rattle.frames.specs.Text.{Said, a_module, drawing, field, module_text, fields}

pub given_some : {A : Type 0} (o : Option A) (x : A) → Ok x ≡ given o → Some x ≡ o
given_some (Some y) x e = cc
given_some None x e = let ok_err : ◌≡◌ {A = ℕ} 0 1 = cc in absurd (omega arith)

abbrev module_with : List ℕ → ℕ → Option ModuleFlags → Result Said Refusal
module_with line order o = elim o [ Some flags ↦ Ok (a_module flags order (drop 14 line) 14) | None ↦ Err FieldValue ]

pub module_read : (line bytes : List ℕ) (v order : ℕ) (flags : ModuleFlags) → v ≡ field bytes 1 3 → Some flags ≡ flags_of v → order ≡ field bytes 3 7 → Ok (a_module flags order (drop 14 line) 14) ≡ module_text line bytes
module_read line bytes v order flags e f o =
    ap (module_with line order) f
    ∙ ap (λ n. module_with line order (flags_of n)) e
    ∙ ap (λ n. module_with line n (flags_of (field bytes 1 3))) o

-- a letter that is none of the others has no fields
pub rest_draws : (c : ℕ) (line bytes : List ℕ) → (c ≡ 71 → ⊥) → (c ≡ 77 → ⊥) → (c ≡ 82 → ⊥) → (c ≡ 83 → ⊥) → (c ≡ 69 → ⊥) → (c ≡ 76 → ⊥) → (c ≡ 85 → ⊥) → (c ≡ 73 → ⊥) → (c ≡ 88 → ⊥) → Ok drawing ≡ fields c line bytes
rest_draws c line bytes g m r s e l u i x =
    sym (cond-false _ _ _ (ne_eqb c 71 g)
    ∙ cond-false _ _ _ (ne_eqb c 77 m)
    ∙ cond-false _ _ _ (ne_eqb c 82 r)
    ∙ cond-false _ _ _ (ne_eqb c 83 s)
    ∙ cond-false _ _ _ (ne_eqb c 69 e)
    ∙ cond-false _ _ _ (ne_eqb c 76 l)
    ∙ cond-false _ _ _ (ne_eqb c 85 u)
    ∙ cond-false _ _ _ (ne_eqb c 73 i)
    ∙ cond-false _ _ _ (ne_eqb c 88 x))
