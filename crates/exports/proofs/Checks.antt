-- A table's check against the panel that it means.
use Rattle.std.proofs.Common.{◌≡◌, ℕ, ◌-◌, ◌<◌, Bool, false, cond, not, ◌&&◌, ◌||◌, eqb, leb, List, [], ◌∷◌, ◌++◌, map, length, get_or, take, Ok, Err, vec_items, Result, sym, refl, ap, ◌∙◌, arith}
use Rattle.std.specs.Option.{option_to_list}
use Rattle.std.specs.List.{flat_map, list_any}
use Rattle.std.proofs.lemmas.List.{length-map, get_or-map, take-map}
use Rattle.tables.specs.declared.module.EntryPoint.{EntryPoint}
use Rattle.tables.specs.declared.module.EntryPointKind.TheVariants.{UserDefined}
use Rattle.std.proofs.lemmas.List.Folds.{list_any-append}
use Rattle.tables.specs.declared.table.Table.{Table}
use Rattle.exports.specs.Beyond.{some_beyond, resolves_beyond}
use Rattle.std.proofs.lemmas.Bool.{eq-eqb, ne_eqb}
use Rattle.tables.specs.declared.refusal.Refusal.{Refusal}
use Rattle.tables.specs.declared.refusal.Refusal.TheVariants.{Limit, ModuleOutOfRange, ExternalRuntime, EntryApart}
use Rattle.exports.specs.Check.{named, resolved_numbers, apart_at, some_apart, verdict}
use Rattle.tables.specs.Panel.{PanelImport, count, external, starts}
use Rattle.tables.specs.View.{panel_of, module_of, import_of, entry_of, number}
use Rattle.exports.proofs.Views.{all_records}

-- the entries' modules
abbrev pub of_entries : List EntryPoint → List ℕ
of_entries es = map (λ e. e.«module».0) es

pub starts_are : (es : List EntryPoint) → map (λ e. e.start) (map entry_of es) ≡ of_entries es
starts_are [] = refl
starts_are (e ∷ es) = ap (λ (l : List ℕ). e.«module».0 ∷ l) (starts_are es)

pub count_is : (t : Table) → count (panel_of t) ≡ length (vec_items t.modules)
count_is t = length-map (vec_items t.modules) (module_of (vec_items t.ids) (vec_items t.records))

any_map : {A B : Type 0} (test : B → Bool) (f : A → B) (xs : List A) → list_any test (map f xs) ≡ list_any (λ x. test (f x)) xs
any_map test f [] = refl
any_map test f (x ∷ xs) = ap (λ b. test (f x) || b) (any_map test f xs)

any_joined : {A B : Type 0} (test : B → Bool) (f : A → List B) (xs : List A) → list_any test (flat_map f xs) ≡ list_any (λ x. list_any test (f x)) xs
any_joined test f [] = refl
any_joined test f (x ∷ xs) = list_any-append test (f x) (flat_map f xs) ∙ ap (λ b. list_any test (f x) || b) (any_joined test f xs)

imports_are : (t : Table) → flat_map (λ m. m.imports) (panel_of t).modules ≡ map import_of (vec_items t.records)
imports_are t = all_records (vec_items t.ids) (vec_items t.records) (vec_items t.modules) 0 t.records_tiled

pub named_beyond : (t : Table) → list_any (leb (count (panel_of t))) (named (panel_of t)) ≡ some_beyond (length (vec_items t.modules)) t.options (vec_items t.entries) (vec_items t.listed) (vec_items t.records)
named_beyond t =
    let n = length (vec_items t.modules) in
    let p = panel_of t in
    let es = vec_items t.entries in
    let ls = vec_items t.listed in
    let rs = vec_items t.records in
    let here = leb n p.runtime in
    let entries : list_any (leb n) (starts p) ≡ list_any (λ e. leb n e.«module».0) es = ap (list_any (leb n)) (starts_are es) ∙ any_map (leb n) (λ (e : EntryPoint). e.«module».0) es in
    let records : list_any (leb n) (resolved_numbers p) ≡ list_any (resolves_beyond n) rs =
    any_joined (leb n) (λ (i : PanelImport). option_to_list i.resolved) (flat_map (λ m. m.imports) p.modules)
    ∙ ap (list_any (λ (i : PanelImport). list_any (leb n) (option_to_list i.resolved))) (imports_are t)
    ∙ any_map (λ (i : PanelImport). list_any (leb n) (option_to_list i.resolved)) import_of rs in
    ap (λ k. list_any (leb k) (named p)) (count_is t)
    ∙ ap (λ b. here || b) (list_any-append (leb n) (starts p) (p.listed ++ resolved_numbers p))
    ∙ ap (λ b. here || (b || list_any (leb n) (p.listed ++ resolved_numbers p))) entries
    ∙ ap (λ b. here || (list_any (λ e. leb n e.«module».0) es || b)) (list_any-append (leb n) p.listed (resolved_numbers p) ∙ ap (λ b. b || list_any (leb n) (resolved_numbers p)) (any_map (leb n) number ls) ∙ ap (λ b. list_any (λ m. leb n m.0) ls || b) records)

abbrev pub at_entry : List EntryPoint → ℕ → ℕ
at_entry es e = (get_or es e (record { «module» = record { 0 = 0 }; kind = UserDefined })).«module».0

-- the same of the entries themselves
pub apart_by_entries : (es : List EntryPoint) (e : ℕ) → e < length es → apart_at (of_entries es) e ≡ (not (eqb (at_entry es (e - 1)) (at_entry es e)) && list_any (λ x. eqb x.«module».0 (at_entry es e)) (take e es))
apart_by_entries es e l =
    let f : EntryPoint → ℕ = λ x. x.«module».0 in
    let d : EntryPoint = record { «module» = record { 0 = 0 }; kind = UserDefined } in
    let before : e - 1 < length es = omega arith in
    let earlier : list_any (λ m. eqb m (at_entry es e)) (take e (of_entries es)) ≡ list_any (λ x. eqb x.«module».0 (at_entry es e)) (take e es) =
    ap (list_any (λ m. eqb m (at_entry es e))) (take-map f e es) ∙ any_map (λ m. eqb m (at_entry es e)) f (take e es) in
    ap (λ m. not (eqb m (get_or (of_entries es) e 0)) && list_any (λ k. eqb k (get_or (of_entries es) e 0)) (take e (of_entries es))) (get_or-map f es (e - 1) d 0 before)
    ∙ ap (λ m. not (eqb (at_entry es (e - 1)) m) && list_any (λ k. eqb k m) (take e (of_entries es))) (get_or-map f es e d 0 l)
    ∙ ap (λ b. not (eqb (at_entry es (e - 1)) (at_entry es e)) && b) earlier

module _ (es : List EntryPoint) (e : ℕ) (l : e < length es) where
  pub beside : at_entry es (e - 1) ≡ at_entry es e → false ≡ apart_at (of_entries es) e
  beside same = sym (apart_by_entries es e l ∙ ap (λ b. not b && list_any (λ x. eqb x.«module».0 (at_entry es e)) (take e es)) (eq-eqb (at_entry es (e - 1)) (at_entry es e) same))

  pub elsewhere : (at_entry es (e - 1) ≡ at_entry es e → ⊥) → list_any (λ x. eqb x.«module».0 (at_entry es e)) (take e es) ≡ apart_at (of_entries es) e
  elsewhere other = sym (apart_by_entries es e l ∙ ap (λ b. not b && list_any (λ x. eqb x.«module».0 (at_entry es e)) (take e es)) (ne_eqb (at_entry es (e - 1)) (at_entry es e) other))

-- the verdict by its four tests
abbrev pub smallest : Bool → Bool → Bool → Bool → Result (Unit {0}) Refusal
smallest none beyond external apart = cond none (Err Limit) (cond beyond (Err ModuleOutOfRange) (cond external (Err ExternalRuntime) (cond apart (Err EntryApart) (Ok tt))))

pub verdict_by : (t : Table) (a b c d : Bool) → eqb (count (panel_of t)) 0 ≡ a → some_beyond (length (vec_items t.modules)) t.options (vec_items t.entries) (vec_items t.listed) (vec_items t.records) ≡ b → external (panel_of t) (panel_of t).runtime ≡ c → some_apart (of_entries (vec_items t.entries)) ≡ d → smallest a b c d ≡ verdict (panel_of t)
verdict_by t a b c d ea eb ec ed =
    let p = panel_of t in
    let x = external p p.runtime in
    let far = list_any (leb (count p)) (named p) in
    let q = some_apart (starts p) in
    let beyond : far ≡ b = named_beyond t ∙ eb in
    let apart : q ≡ d = ap some_apart (starts_are (vec_items t.entries)) ∙ ed in
    sym (ap (λ v. smallest v far x q) ea ∙ ap (λ v. smallest a v x q) beyond ∙ ap (λ v. smallest a b v q) ec ∙ ap (smallest a b c) apart)
