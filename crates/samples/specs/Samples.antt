-- Exchanges at work, one that changes nothing, one that the condition keeps out and one that the comparison sees; a sphere that is
-- named like a paint; and a cut-out.
use Rattle.laws.specs.Bytes.{Bytes, bytes}

-- ---- an exchange that changes nothing but numbering

abbrev pub lamp : Bytes
lamp = bytes "void light lamp 0 0 3 1 1 1\n"

abbrev pub wall : Bytes
wall = bytes "# the wall \u{7f}\nvoid plastic wall\n0 0 5 .5 .5 .5 0 0\n"

abbrev pub panel : Bytes
panel = bytes "wall sphere panel 0 0 4 0 0 0 1"

-- ---- truck nine: the finish `deskfront` twice, and a panel that refers to it

abbrev pub oak : Bytes
oak = bytes "void plastic deskfront\n0 0 5 .6 .4 .2 0 0\n"

abbrev pub grey : Bytes
grey = bytes "void metal deskfront\n0 0 5 .5 .5 .5 0 0\n"

abbrev pub desk : Bytes
desk = bytes "deskfront polygon desk\n0 0 9 0 0 0 1 0 0 0 1 0\n"

-- ---- a sphere named `wall`, between the paint and the panel

abbrev pub ball : Bytes
ball = bytes "void sphere wall 0 0 4 0 0 0 1\n"

-- ---- two surfaces of one name

abbrev pub small : Bytes
small = bytes "void sphere knob 0 0 4 0 0 0 1\n"

abbrev pub large : Bytes
large = bytes "void sphere knob 0 0 4 0 0 0 2\n"

-- ---- an opening cut out of the desk's front, and an alias of it

abbrev pub cutout : Bytes
cutout = bytes "void antimatter hole 1 deskfront 0 0\nvoid alias slot hole\n"
