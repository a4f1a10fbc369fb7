-- What the crates above cite of a table: its files and their bytes, its places, and what edits do to them.
pub use Rattle.sis_table.proofs.ContentEdits.{content_of-table, files_of-changed, files_of-drop, files_of-kept, files_of-made, files_of-make, files_of-rename, files_of-version, node_with-changed, node_with-other}
pub use Rattle.sis_table.proofs.ContentLemmas.{content_of-plain, content-blocks, content-same, files_of-same, get-files_of, keys-files_of, length-content_of, length-files_of, node_named-has, run_bytes-same, runs_bytes-same, user_nodes-all}
pub use Rattle.sis_table.proofs.EditLemmas.{IsTable-edited, IsTable-edited_by, all_nodes}
pub use Rattle.sis_table.proofs.GoodLemmas.{good_law}
pub use Rattle.sis_table.proofs.LengthEdits.{length-changed, length-drop, length-make, length-map, length-rename, length-size, length-unmap, length-version}
pub use Rattle.sis_table.proofs.PlaceLemmas.{LiesAt, node_with-drop, place_in-drop, place_in-make, place_in-map, place_in-rename, place_in-size, place_in-unmap, place_in-version, used-at, used-from}
pub use Rattle.sis_table.proofs.PutLemmas.{MayEditBy-append, edited-layout, edited_by-append, edited_by-layout, files_of-put, get-used_places, is_used-put, length-used_places, put_may}
pub use Rattle.sis_table.proofs.UseLemmas.{IsGood-edited, IsGood-edited_by, is_used-between, placed-at, told-changes, used-edited}
