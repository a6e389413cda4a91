-- What a table means after one thing more.
use Rattle.std.proofs.Common.{◌≡◌, ℕ, zero, suc, ◌+◌, ◌-◌, ◌≤◌, true, List, [], ◌∷◌, ◌++◌, map, length, get_or, drop, set, sum_by, sym, refl, ap, ◌∙◌, arith}
use Rattle.std.specs.List.{flat_map}
use Rattle.std.proofs.lemmas.List.Sums.{sum_by-cons}
use Rattle.std.proofs.lemmas.Bool.{eqb-true, eq-eqb}
use Rattle.std.proofs.lemmas.List.{length-map, map-append, map_push, take-append-drop, drop-drop, drop_all}
use Rattle.tables.specs.declared.module.Span.{Span}
use Rattle.tables.specs.declared.module.Module.{Module}
use Rattle.tables.specs.declared.module.ImportRecord.{ImportRecord}
use Rattle.tables.specs.Panel.{PanelModule, PanelImport}
use Rattle.tables.specs.Spans.{cut, tiled}
use Rattle.tables.specs.View.{module_of, import_of}
use Rattle.exports.specs.Steps.{latest_with, with_record}
use Rattle.tables.proofs.Tiles.{Within, First, tiled_first, tiled_cons, first_within, cut_kept, cut_more, length_cut}

abbrev ids_of : List Module → List Span
ids_of ms = map (λ m. m.id) ms

abbrev records_of : List Module → List Span
records_of ms = map (λ m. m.import_records) ms

-- the second list has all parts of the first
abbrev pub Extends : {A : Type 0} → List A → List A → Type 0
Extends xs ys = (s : Span) → Within s (length xs) → cut ys s ≡ cut xs s

pub module_same : (ids ids' : List ℕ) (records records' : List ImportRecord) (m : Module) → cut ids' m.id ≡ cut ids m.id → cut records' m.import_records ≡ cut records m.import_records → module_of ids' records' m ≡ module_of ids records m
module_same ids ids' records records' m a b =
    ap (λ (i : List ℕ). record { external = m.external; json = m.json; sensitive = m.order_sensitive; wrap = m.wrap_kind; order = m.exec_order; ident = i; imports = map import_of (cut records' m.import_records) }) a
    ∙ ap (λ (rs : List ImportRecord). record { external = m.external; json = m.json; sensitive = m.order_sensitive; wrap = m.wrap_kind; order = m.exec_order; ident = cut ids m.id; imports = map import_of rs }) b

module _ (ids ids' : List ℕ) (records records' : List ImportRecord) (i : Extends ids ids') (r : Extends records records') where
  pub modules_kept : (ms : List Module) (from from' : ℕ) → tiled from (ids_of ms) (length ids) ≡ true → tiled from' (records_of ms) (length records) ≡ true → map (module_of ids' records') ms ≡ map (module_of ids records) ms
  modules_kept [] from from' a b = refl
  modules_kept (m ∷ ms) from from' a b =
      let p = tiled_first from m.id (ids_of ms) (length ids) a in
      let q = tiled_first from' m.import_records (records_of ms) (length records) b in
      let wi = first_within from m.id (ids_of ms) (length ids) (length ids) p (omega arith) in
      let wr = first_within from' m.import_records (records_of ms) (length records) (length records) q (omega arith) in
      let e = module_same ids ids' records records' m (i m.id wi) (r m.import_records wr) in
      let es = modules_kept ms m.id.end m.import_records.end p.rest q.rest in
      ap (λ (x : PanelModule). x ∷ map (module_of ids' records') ms) e ∙ ap (λ (xs : List PanelModule). module_of ids records m ∷ xs) es

-- the spans of modules, by what each module means, sum up to the whole
pub total : (n : ℕ) (span : Module → Span) (view : Module → PanelModule) (f : PanelModule → ℕ) → ((m : Module) → Within (span m) n → f (view m) + (span m).start ≡ (span m).end) → (ms : List Module) (from to : ℕ) → tiled from (map span ms) to ≡ true → to ≤ n → from + sum_by f (map view ms) ≡ to
total n span view f each [] from to t h = let e = eqb-true from to t in omega arith
total n span view f each (m ∷ ms) from to t h =
    let p = tiled_first from (span m) (map span ms) to t in
    let e = each m (first_within from (span m) (map span ms) to n p h) in
    let s = total n span view f each ms (span m).end to p.rest h in
    let o = p.ordered in
    let st = p.starts in
    omega (arith, sum_by-cons f (view m) (map view ms))

pub id_total : (ids : List ℕ) (records : List ImportRecord) (ms : List Module) → tiled 0 (ids_of ms) (length ids) ≡ true → sum_by (λ m. length m.ident) (map (module_of ids records) ms) ≡ length ids
id_total ids records ms t =
    let e = total (length ids) (λ m. m.id) (module_of ids records) (λ m. length m.ident) (λ m w. length_cut ids m.id w) ms 0 (length ids) t (omega arith) in
    omega arith

pub record_total : (ids : List ℕ) (records : List ImportRecord) (ms : List Module) → tiled 0 (records_of ms) (length records) ≡ true → sum_by (λ m. length m.imports) (map (module_of ids records) ms) ≡ length records
record_total ids records ms t =
    let e = total (length records) (λ m. m.import_records) (module_of ids records) (λ m. length m.imports) (λ m w. ap (λ k. k + m.import_records.start) (length-map (cut records m.import_records) import_of) ∙ length_cut records m.import_records w) ms 0 (length records) t (omega arith) in
    omega arith

-- the records of all modules, in order, are all records
pub all_records : (ids : List ℕ) (records : List ImportRecord) (ms : List Module) (from : ℕ) → tiled from (records_of ms) (length records) ≡ true → flat_map (λ m. m.imports) (map (module_of ids records) ms) ≡ map import_of (drop from records)
all_records ids records [] from t = let e = eqb-true from (length records) t in sym (ap (map import_of) (drop_all from records (omega arith)))
all_records ids records (m ∷ ms) from t =
    let s = m.import_records in
    let p = tiled_first from s (records_of ms) (length records) t in
    let rest = all_records ids records ms s.end p.rest in
    let e : s.start + (s.end - s.start) ≡ s.end = omega (arith, p.starts, p.ordered) in
    let tail : drop (s.end - s.start) (drop s.start records) ≡ drop s.end records = drop-drop (s.end - s.start) s.start records ∙ ap (λ k. drop k records) e in
    ap (λ (l : List PanelImport). map import_of (cut records s) ++ l) rest
    ∙ sym (map-append import_of (cut records s) (drop s.end records))
    ∙ ap (λ (l : List ImportRecord). map import_of (cut records s ++ l)) (sym tail)
    ∙ ap (map import_of) (take-append-drop (s.end - s.start) (drop s.start records))
    ∙ ap (λ k. map import_of (drop k records)) p.starts

-- a module whose records end elsewhere
abbrev pub stretched : Module → ℕ → Module
stretched m to = record { external = m.external; json = m.json; order_sensitive = m.order_sensitive; wrap_kind = m.wrap_kind; exec_order = m.exec_order; id = m.id; import_records = record { start = m.import_records.start; end = to } }

pub ids_stretched : (ms : List Module) (k : ℕ) (d : Module) (to : ℕ) → ids_of (set ms k (stretched (get_or ms k d) to)) ≡ ids_of ms
ids_stretched [] k d to = refl
ids_stretched (m ∷ ms) zero d to = refl
ids_stretched (m ∷ ms) (suc k) d to = ap (λ (l : List Span). m.id ∷ l) (ids_stretched ms k d to)

pub records_stretched : (ms : List Module) (k : ℕ) (d : Module) (from to : ℕ) → length ms ≡ suc k → tiled from (records_of ms) to ≡ true → tiled from (records_of (set ms k (stretched (get_or ms k d) (to + 1)))) (to + 1) ≡ true
records_stretched [] k d from to e t = absurd (omega arith)
records_stretched (m ∷ []) zero d from to e t =
    let p = tiled_first from m.import_records [] to t in
    let q = eqb-true m.import_records.end to p.rest in
    tiled_cons from (record { start = m.import_records.start; end = to + 1 }) [] (to + 1) p.starts (omega (arith, p.ordered)) (eq-eqb (to + 1) (to + 1) refl)
records_stretched (m ∷ []) (suc k) d from to e t = absurd (omega arith)
records_stretched (m ∷ (n ∷ ms)) zero d from to e t = absurd (omega arith)
records_stretched (m ∷ (n ∷ ms)) (suc k) d from to e t =
    let p = tiled_first from m.import_records (records_of (n ∷ ms)) to t in
    tiled_cons from m.import_records _ (to + 1) p.starts p.ordered (records_stretched (n ∷ ms) k d m.import_records.end to (omega arith) p.rest)

module _ (ids : List ℕ) (records : List ImportRecord) (r : ImportRecord) where
  -- the last module, stretched by one record
  last_stretched : (m : Module) (from : ℕ) → First from m.import_records [] (length records) → module_of ids (records ++ r ∷ []) (stretched m (length records + 1)) ≡ with_record (import_of r) (module_of ids records m)
  last_stretched m from p =
      let s = m.import_records in
      let e : s.end ≡ length records = eqb-true s.end (length records) p.rest in
      let at : s.start ≤ length records = omega (arith, p.starts, p.ordered, p.ends) in
      let more = cut_more records r s.start at in
      let same : cut records (record { start = s.start; end = length records }) ≡ cut records s = ap (λ k. cut records (record { start = s.start; end = k })) (sym e) in
      ap (λ (is : List PanelImport). record { external = m.external; json = m.json; sensitive = m.order_sensitive; wrap = m.wrap_kind; order = m.exec_order; ident = cut ids m.id; imports = is })
      (ap (map import_of) (more ∙ ap (λ (l : List ImportRecord). l ++ r ∷ []) same) ∙ map_push import_of (cut records s) r)

  pub latest_stretched : (ms : List Module) (k : ℕ) (d : Module) (from from' : ℕ) → length ms ≡ suc k → tiled from (ids_of ms) (length ids) ≡ true → tiled from' (records_of ms) (length records) ≡ true → map (module_of ids (records ++ r ∷ [])) (set ms k (stretched (get_or ms k d) (length records + 1))) ≡ latest_with (import_of r) (map (module_of ids records) ms)
  latest_stretched [] k d from from' e a b = absurd (omega arith)
  latest_stretched (m ∷ []) zero d from from' e a b = ap (λ (x : PanelModule). x ∷ []) (last_stretched m from' (tiled_first from' m.import_records [] (length records) b))
  latest_stretched (m ∷ []) (suc k) d from from' e a b = absurd (omega arith)
  latest_stretched (m ∷ (n ∷ ms)) zero d from from' e a b = absurd (omega arith)
  latest_stretched (m ∷ (n ∷ ms)) (suc k) d from from' e a b =
      let p = tiled_first from m.id (ids_of (n ∷ ms)) (length ids) a in
      let q = tiled_first from' m.import_records (records_of (n ∷ ms)) (length records) b in
      let w = first_within from' m.import_records (records_of (n ∷ ms)) (length records) (length records) q (omega arith) in
      let one = module_same ids ids records (records ++ r ∷ []) m refl (cut_kept records (r ∷ []) m.import_records w) in
      let rest = latest_stretched (n ∷ ms) k d m.id.end m.import_records.end (omega arith) p.rest q.rest in
      ap (λ (x : PanelModule). x ∷ map (module_of ids (records ++ r ∷ [])) (set (n ∷ ms) k (stretched (get_or (n ∷ ms) k d) (length records + 1)))) one
      ∙ ap (λ (xs : List PanelModule). module_of ids records m ∷ xs) rest
