use Rattle.std.proofs.Common.{refl, sym, subst}
use Rattle.std.specs.Prelude.{⊤}
use Rattle.sis_table.specs.Drafts.{Drafts}
use Rattle.sis_table.specs.Edits.{MayEdit, MayMap, edited, stretch, with_map, with_name, with_node, with_size, with_version, without_map, without_node}
use Rattle.sis_table.specs.declared.edit.Edit.{Edit}
use Rattle.sis_table.specs.declared.edit.Edit.TheVariants as edit
use Rattle.sis_table.proofs.DraftLemmas.{changed_short, drafts_edited, drafts_inside, drafts_own, drafts_small}
use Rattle.sis_table.proofs.EditLemmas.{IsTable-edited, map_within, rename_free}
use Rattle.sis_table.proofs.table.Table.edit_in.Goals as goal

pub rename-requires-clause-small : goal.rename-requires-clause-small
rename-requires-clause-small c = drafts_small c.args.self.now c.requires.0 c.args.draft.now c.requires.1

pub resize-requires-clause-small : goal.resize-requires-clause-small
resize-requires-clause-small c = drafts_small c.args.self.now c.requires.0 c.args.draft.now c.requires.1

pub map-requires-clause-short : goal.map-requires-clause-short
map-requires-clause-short c =
    let now = c.requires.0 in
    let r = stretch c.in-Map.first c.in-Map.count c.in-Map.place in
    let may = subst (MayEdit now) c.in-Map.is c.requires.2 in (
      now.nodes,
      (drafts_inside _ c.args.self.now now c.self.view_is c.args.draft.now c.requires.1).stands,
      changed_short now c.in-Map.id (with_map r) (λ n. MayMap now.layout n r) (λ n. refl) may
          (IsTable-edited now (edit.Map c.in-Map.id c.in-Map.first c.in-Map.count c.in-Map.place) c.requires.1.table may),
    )

pub map-requires-clause-within : goal.map-requires-clause-within
map-requires-clause-within c =
    map_within c.requires.0 c.in-Map.id c.in-Map.first c.in-Map.count c.in-Map.place c.requires.1.table (subst (MayEdit c.requires.0) c.in-Map.is c.requires.2)

pub map-requires-clause-small : goal.map-requires-clause-small
map-requires-clause-small c = drafts_small c.args.self.now c.requires.0 c.args.draft.now c.requires.1

pub unmap-requires-clause-short : goal.unmap-requires-clause-short
unmap-requires-clause-short c =
    let now = c.requires.0 in
    let may = subst (MayEdit now) c.in-Unmap.is c.requires.2 in (
      now.nodes,
      (drafts_inside _ c.args.self.now now c.self.view_is c.args.draft.now c.requires.1).stands,
      changed_short now c.in-Unmap.id (without_map c.in-Unmap.first c.in-Unmap.count) (λ n. ⊤) (λ n. refl) may
          (IsTable-edited now (edit.Unmap c.in-Unmap.id c.in-Unmap.first c.in-Unmap.count) c.requires.1.table may),
    )

pub unmap-requires-clause-small : goal.unmap-requires-clause-small
unmap-requires-clause-small c = drafts_small c.args.self.now c.requires.0 c.args.draft.now c.requires.1

pub set_version-requires-clause-small : goal.set_version-requires-clause-small
set_version-requires-clause-small c = drafts_small c.args.self.now c.requires.0 c.args.draft.now c.requires.1

pub returns-in_ok-drop_file-in-Drop : goal.returns-in_ok-drop_file-in-Drop
returns-in_ok-drop_file-in-Drop c = λ now drafts may.
    subst (λ (x : Edit). Drafts c.args.self.now c.drop_file.new.self (edited now x)) (sym c.in-Drop.is)
    (drafts_edited _ c.args.self.now now c.self.view_is c.args.draft.now drafts c.drop_file.new.self (edit.Drop c.in-Drop.id) (without_node c.in-Drop.id now.nodes)
    (subst (MayEdit now) c.in-Drop.is may) refl c.in_ok-drop_file-in-Drop.ensures.next
    (λ stands. c.in_ok-drop_file-in-Drop.ensures.ok now.nodes stands (drafts_own _ c.args.self.now now c.self.view_is c.args.draft.now drafts)))

pub returns-in_ok-rename-in-Rename : goal.returns-in_ok-rename-in-Rename
returns-in_ok-rename-in-Rename c = λ now drafts may.
    let may_rename = subst (MayEdit now) c.in-Rename.is may in
    subst (λ (x : Edit). Drafts c.args.self.now c.rename.new.self (edited now x)) (sym c.in-Rename.is)
    (drafts_edited _ c.args.self.now now c.self.view_is c.args.draft.now drafts c.rename.new.self (edit.Rename c.in-Rename.id c.in-Rename.name) (with_node c.in-Rename.id (with_name c.in-Rename.name) now.nodes)
    may_rename refl c.in_ok-rename-in-Rename.ensures.next
    (λ stands. c.in_ok-rename-in-Rename.ensures.ok now.nodes stands (drafts_own _ c.args.self.now now c.self.view_is c.args.draft.now drafts) (rename_free now c.in-Rename.id c.in-Rename.name may_rename)))

pub returns-in_ok-resize-in-Size : goal.returns-in_ok-resize-in-Size
returns-in_ok-resize-in-Size c = λ now drafts may.
    subst (λ (x : Edit). Drafts c.args.self.now c.resize.new.self (edited now x)) (sym c.in-Size.is)
    (drafts_edited _ c.args.self.now now c.self.view_is c.args.draft.now drafts c.resize.new.self (edit.Size c.in-Size.id c.in-Size.size) (with_node c.in-Size.id (with_size c.in-Size.size) now.nodes)
    (subst (MayEdit now) c.in-Size.is may) refl c.in_ok-resize-in-Size.ensures.next (c.in_ok-resize-in-Size.ensures.ok now.nodes))

pub returns-in_ok-map-in-Map : goal.returns-in_ok-map-in-Map
returns-in_ok-map-in-Map c = λ now drafts may.
    let r = stretch c.in-Map.first c.in-Map.count c.in-Map.place in
    subst (λ (x : Edit). Drafts c.args.self.now c.map.new.self (edited now x)) (sym c.in-Map.is)
    (drafts_edited _ c.args.self.now now c.self.view_is c.args.draft.now drafts c.map.new.self (edit.Map c.in-Map.id c.in-Map.first c.in-Map.count c.in-Map.place) (with_node c.in-Map.id (with_map r) now.nodes)
    (subst (MayEdit now) c.in-Map.is may) refl c.in_ok-map-in-Map.ensures.next (c.in_ok-map-in-Map.ensures.ok now.nodes))

pub returns-in_ok-unmap-in-Unmap : goal.returns-in_ok-unmap-in-Unmap
returns-in_ok-unmap-in-Unmap c = λ now drafts may.
    subst (λ (x : Edit). Drafts c.args.self.now c.unmap.new.self (edited now x)) (sym c.in-Unmap.is)
    (drafts_edited _ c.args.self.now now c.self.view_is c.args.draft.now drafts c.unmap.new.self (edit.Unmap c.in-Unmap.id c.in-Unmap.first c.in-Unmap.count) (with_node c.in-Unmap.id (without_map c.in-Unmap.first c.in-Unmap.count) now.nodes)
    (subst (MayEdit now) c.in-Unmap.is may) refl c.in_ok-unmap-in-Unmap.ensures.next (c.in_ok-unmap-in-Unmap.ensures.ok now.nodes))

pub returns-in_ok-set_version-in-Version : goal.returns-in_ok-set_version-in-Version
returns-in_ok-set_version-in-Version c = λ now drafts may.
    subst (λ (x : Edit). Drafts c.args.self.now c.set_version.new.self (edited now x)) (sym c.in-Version.is)
    (drafts_edited _ c.args.self.now now c.self.view_is c.args.draft.now drafts c.set_version.new.self (edit.Version c.in-Version.id c.in-Version.version) (with_node c.in-Version.id (with_version c.in-Version.version) now.nodes)
    (subst (MayEdit now) c.in-Version.is may) refl c.in_ok-set_version-in-Version.ensures.next (c.in_ok-set_version-in-Version.ensures.ok now.nodes))
