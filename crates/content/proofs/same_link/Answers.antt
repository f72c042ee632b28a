-- `content::same_link` meets its contract.
use mathlib.Core.List.{[]}
use Rattle.keys.specs.Key.{key_of}
use Rattle.keys.specs.Rows.{scene_rows}
use Rattle.content.proofs.ContentLaws.{links_lead}
use Rattle.content.proofs.same_link.Goals as goal

pub returns : goal.returns
returns c =
    let a = c.args in
    links_lead (key_of (scene_rows a.a.text.now a.a.records.now [])) (key_of (scene_rows a.b.text.now a.b.records.now [])) _ _ _ _ _ c.number-i.ensures c.number-j.ensures c.same_key.ensures
