-- How a table lies, and what it means, once it has one module or one record more.
use Rattle.std.proofs.Common.{◌≡◌, ℕ, suc, ◌+◌, ◌-◌, ◌≤◌, true, List, [], ◌∷◌, ◌++◌, map, length, get_or, take, drop, set, sym, refl, ap, ◌∙◌, subst, arith}
use Rattle.std.proofs.lemmas.List.{map_push, length-append, length_push, length-set}
use Rattle.tables.specs.declared.index.ModuleIdx.{ModuleIdx}
use Rattle.tables.specs.declared.module.EntryPoint.{EntryPoint}
use Rattle.tables.specs.declared.module.ImportRecord.{ImportRecord}
use Rattle.tables.specs.declared.module.Module.{Module}
use Rattle.tables.specs.declared.module.ModuleFlags.{ModuleFlags}
use Rattle.tables.specs.declared.module.Options.{Options}
use Rattle.tables.specs.declared.module.Span.{Span}
use Rattle.tables.specs.Panel.{Panel, PanelModule}
use Rattle.tables.specs.Spans.{cut, tiled}
use Rattle.exports.specs.Steps.{with_module, with_modules, new_module, with_import}
use Rattle.tables.specs.View.{panel_from, module_of, import_of}
use Rattle.tables.proofs.Tiles.{tiled_push, cut_kept, cut_new}
use Rattle.exports.proofs.Views.{modules_kept, stretched, latest_stretched, ids_stretched, records_stretched}

sub_self : (n : ℕ) → n - n ≡ 0
sub_self n = omega arith

module _ (o : Options) (ms : List Module) (ids : List ℕ) (rs : List ImportRecord) (es : List EntryPoint) (ls : List ModuleIdx) where
  abbrev old : Panel
  old = panel_from o ms ids rs es ls

  -- the module as it lies in the table when it comes
  abbrev pub laid_module : ModuleFlags → ℕ → List ℕ → Module
  laid_module f order id = record { external = f.external; json = f.json; order_sensitive = f.order_sensitive; wrap_kind = f.wrap_kind; exec_order = order; id = record { start = length ids; end = length (ids ++ id) }; import_records = record { start = length rs; end = length rs } }

  pub module_added : (f : ModuleFlags) (order : ℕ) (id : List ℕ) → tiled 0 (map (λ m. m.id) ms) (length ids) ≡ true → tiled 0 (map (λ m. m.import_records) ms) (length rs) ≡ true → panel_from o (ms ++ laid_module f order id ∷ []) (ids ++ id) rs es ls ≡ with_module (new_module f order id) old
  module_added f order id a b =
      let kept = modules_kept ids (ids ++ id) rs rs (λ s w. cut_kept ids id s w) (λ s w. refl) ms 0 0 a b in
      let none : cut rs (record { start = length rs; end = length rs }) ≡ [] = ap (λ k. take k (drop (length rs) rs)) (sub_self (length rs)) in
      let new : module_of (ids ++ id) rs (laid_module f order id) ≡ new_module f order id =
      ap (λ (i : List ℕ). record { external = f.external; json = f.json; sensitive = f.order_sensitive; wrap = f.wrap_kind; order = order; ident = i; imports = map import_of (cut rs (record { start = length rs; end = length rs })) }) (cut_new ids id)
      ∙ ap (λ (l : List ImportRecord). record { external = f.external; json = f.json; sensitive = f.order_sensitive; wrap = f.wrap_kind; order = order; ident = id; imports = map import_of l }) none in
      ap (with_modules old) (map_push (module_of (ids ++ id) rs) ms (laid_module f order id) ∙ ap (λ (l : List PanelModule). l ++ module_of (ids ++ id) rs (laid_module f order id) ∷ []) kept ∙ ap (λ (m : PanelModule). map (module_of ids rs) ms ++ m ∷ []) new)

  pub import_added : (r : ImportRecord) (k : ℕ) (d : Module) → length ms ≡ suc k → tiled 0 (map (λ m. m.id) ms) (length ids) ≡ true → tiled 0 (map (λ m. m.import_records) ms) (length rs) ≡ true → panel_from o (set ms k (stretched (get_or ms k d) (length rs + 1))) ids (rs ++ r ∷ []) es ls ≡ with_import (import_of r) old
  import_added r k d e a b = ap (with_modules old) (latest_stretched ids rs r ms k d 0 0 e a b)

  -- the table's lists as they then lie, and the panel that they mean
  pub record Lies (ms' : List Module) (ids' : List ℕ) (rs' : List ImportRecord) (p : Panel) (n : ℕ) : Type 0 where
    pub ids_lie : tiled 0 (map (λ m. m.id) ms') (length ids') ≡ true
    pub records_lie : tiled 0 (map (λ m. m.import_records) ms') (length rs') ≡ true
    pub panel : panel_from o ms' ids' rs' es ls ≡ p
    pub long : length ms' ≡ n

  -- a module at given places, which are those where it belongs
  pub module_lies : (f : ModuleFlags) (order : ℕ) (id : List ℕ) (ms' kept : List Module) (ids' : List ℕ) (a b r : ℕ)
      → ids' ≡ ids ++ id → a ≡ length ids → b ≡ length ids' → r ≡ length rs
      → kept ≡ ms → ms' ≡ kept ++ (record { external = f.external; json = f.json; order_sensitive = f.order_sensitive; wrap_kind = f.wrap_kind; exec_order = order; id = record { start = a; end = b }; import_records = record { start = r; end = r } }) ∷ []
      → tiled 0 (map (λ m. m.id) ms) (length ids) ≡ true → tiled 0 (map (λ m. m.import_records) ms) (length rs) ≡ true
      → Lies ms' ids' rs (with_module (new_module f order id) old) (length ms + 1)
  module_lies f order id ms' kept ids' a b r i ea eb er k e x y =
      let there : ms' ≡ ms ++ laid_module f order id ∷ [] =
      e ∙ ap (λ (l : List Module). l ++ (record { external = f.external; json = f.json; order_sensitive = f.order_sensitive; wrap_kind = f.wrap_kind; exec_order = order; id = record { start = a; end = b }; import_records = record { start = r; end = r } }) ∷ []) k
      ∙ ap (λ (s : Span). ms ++ (record { external = f.external; json = f.json; order_sensitive = f.order_sensitive; wrap_kind = f.wrap_kind; exec_order = order; id = s; import_records = record { start = r; end = r } }) ∷ []) (ap (λ k. record { start = k; end = b }) ea ∙ ap (λ k. record { start = length ids; end = k }) (eb ∙ ap length i))
      ∙ ap (λ k. ms ++ (record { external = f.external; json = f.json; order_sensitive = f.order_sensitive; wrap_kind = f.wrap_kind; exec_order = order; id = record { start = length ids; end = length (ids ++ id) }; import_records = record { start = k; end = k } }) ∷ []) er in
      let new = laid_module f order id in
      let grows : length ids ≤ length (ids ++ id) = omega (arith, length-append ids id) in
      let stays : length rs ≤ length rs = omega arith in
      let P : List Module → List ℕ → Type 0 = λ ns is. Lies ns is rs (with_module (new_module f order id) old) (length ms + 1) in
      subst (λ (is : List ℕ). P ms' is) (sym i)
      (subst (λ (ns : List Module). P ns (ids ++ id)) (sym there)
      (record {
        ids_lie = rw (map_push (λ (m : Module). m.id) ms new) (tiled_push 0 (map (λ m. m.id) ms) (length ids) (length (ids ++ id)) grows x);
        records_lie = rw (map_push (λ (m : Module). m.import_records) ms new) (tiled_push 0 (map (λ m. m.import_records) ms) (length rs) (length rs) stays y);
        panel = module_added f order id x y;
        long = length_push ms new;
      }))

  -- the latest module with its records' end moved on to the end of all records
  pub import_lies : (r : ImportRecord) (rs' : List ImportRecord) (k : ℕ) (m : Module) (to : ℕ) → rs' ≡ rs ++ r ∷ [] → to ≡ length rs' → length ms ≡ suc k → m ≡ get_or ms k m
      → tiled 0 (map (λ m. m.id) ms) (length ids) ≡ true → tiled 0 (map (λ m. m.import_records) ms) (length rs) ≡ true
      → Lies (set ms k (stretched m to)) ids rs' (with_import (import_of r) old) (length ms)
  import_lies r rs' k m to i t n e x y =
      let more : to ≡ length rs + 1 = t ∙ (ap length i ∙ length_push rs r) in
      let P : List ImportRecord → Module → ℕ → Type 0 = λ q w z. Lies (set ms k (stretched w z)) ids q (with_import (import_of r) old) (length ms) in
      subst (λ (q : List ImportRecord). P q m to) (sym i)
      (subst (λ z. P (rs ++ r ∷ []) m z) (sym more)
      (subst (λ (w : Module). P (rs ++ r ∷ []) w (length rs + 1)) (sym e)
      (record {
        ids_lie = subst (λ (ss : List Span). tiled 0 ss (length ids) ≡ true) (sym (ids_stretched ms k m (length rs + 1))) x;
        records_lie = subst (λ z. tiled 0 (map (λ m. m.import_records) (set ms k (stretched (get_or ms k m) (length rs + 1)))) z ≡ true) (sym (length_push rs r)) (records_stretched ms k m 0 (length rs) n y);
        panel = import_added r k m n x y;
        long = length-set ms k (stretched (get_or ms k m) (length rs + 1));
      })))
