-- ISO/IEC 6937:1994 beyond the primary set: the supplementary set, as Table 3 lists it, and the
-- letters of each diacritic, by Table 4.
use Rattle.std.specs.Prelude.{ℕ, List, [], ◌∷◌, map}
use Prim.Native.Char.{Char, code}

-- Columns 10 to 15, each in two lines, rows 0 to 7 and rows 8 to 15: the character that the byte
-- codes alone, 0 if it codes none. Above each number stands its character.
unfoldable pub supplementary : List (List ℕ)
supplementary =
    -- column 10
    -- NBSP       ¡        ¢        £                 ¥                 §
    (0x00A0 ∷ 0x00A1 ∷ 0x00A2 ∷ 0x00A3 ∷ 0x0000 ∷ 0x00A5 ∷ 0x0000 ∷ 0x00A7 ∷
    --  ¤        ‘        “        «        ←        ↑        →        ↓
    0x00A4 ∷ 0x2018 ∷ 0x201C ∷ 0x00AB ∷ 0x2190 ∷ 0x2191 ∷ 0x2192 ∷ 0x2193 ∷ []) ∷
    -- column 11
    --   °        ±        ²        ³        ×        µ        ¶        ·
    (0x00B0 ∷ 0x00B1 ∷ 0x00B2 ∷ 0x00B3 ∷ 0x00D7 ∷ 0x00B5 ∷ 0x00B6 ∷ 0x00B7 ∷
    --  ÷        ’        ”        »        ¼        ½        ¾        ¿
    0x00F7 ∷ 0x2019 ∷ 0x201D ∷ 0x00BB ∷ 0x00BC ∷ 0x00BD ∷ 0x00BE ∷ 0x00BF ∷ []) ∷
    -- column 12: the diacritics, which code nothing alone
    (0x0000 ∷ 0x0000 ∷ 0x0000 ∷ 0x0000 ∷ 0x0000 ∷ 0x0000 ∷ 0x0000 ∷ 0x0000 ∷
    0x0000 ∷ 0x0000 ∷ 0x0000 ∷ 0x0000 ∷ 0x0000 ∷ 0x0000 ∷ 0x0000 ∷ 0x0000 ∷ []) ∷
    -- column 13
    --   ―        ¹        ®        ©        ™        ♪        ¬        ¦
    (0x2015 ∷ 0x00B9 ∷ 0x00AE ∷ 0x00A9 ∷ 0x2122 ∷ 0x266A ∷ 0x00AC ∷ 0x00A6 ∷
    --                                      ⅛        ⅜        ⅝        ⅞
    0x0000 ∷ 0x0000 ∷ 0x0000 ∷ 0x0000 ∷ 0x215B ∷ 0x215C ∷ 0x215D ∷ 0x215E ∷ []) ∷
    -- column 14
    --   Ω        Æ        Đ        ª        Ħ                 Ĳ        Ŀ
    (0x2126 ∷ 0x00C6 ∷ 0x0110 ∷ 0x00AA ∷ 0x0126 ∷ 0x0000 ∷ 0x0132 ∷ 0x013F ∷
    --  Ł        Ø        Œ        º        Þ        Ŧ        Ŋ        ŉ
    0x0141 ∷ 0x00D8 ∷ 0x0152 ∷ 0x00BA ∷ 0x00DE ∷ 0x0166 ∷ 0x014A ∷ 0x0149 ∷ []) ∷
    -- column 15
    --   ĸ        æ        đ        ð        ħ        ı        ĳ        ŀ
    (0x0138 ∷ 0x00E6 ∷ 0x0111 ∷ 0x00F0 ∷ 0x0127 ∷ 0x0131 ∷ 0x0133 ∷ 0x0140 ∷
    --  ł        ø        œ        ß        þ        ŧ        ŋ      SHY
    0x0142 ∷ 0x00F8 ∷ 0x0153 ∷ 0x00DF ∷ 0x00FE ∷ 0x0167 ∷ 0x014B ∷ 0x00AD ∷ []) ∷
    []

-- A diacritic, and the letters before which it stands, each with the character of the pair.
abbrev pub diacritic : ℕ → List (Char × ℕ) → ℕ × List (ℕ × ℕ)
diacritic mark letters = (mark, map (λ p. (code p.0, p.1)) letters)

-- The thirteen diacritics, by their bytes. The letters of each stand in the order of the alphabet,
-- the capital before the small one, and SPACE last; behind each line stand its characters.
unfoldable pub diacritics : List (ℕ × List (ℕ × ℕ))
diacritics =
    -- 12/01 grave accent
    diacritic 0xC1 (
    ("A", 0x00C0) ∷ ("a", 0x00E0) ∷ ("E", 0x00C8) ∷ ("e", 0x00E8) ∷  -- À à È è
    ("I", 0x00CC) ∷ ("i", 0x00EC) ∷ ("O", 0x00D2) ∷ ("o", 0x00F2) ∷  -- Ì ì Ò ò
    ("U", 0x00D9) ∷ ("u", 0x00F9) ∷ []) ∷  -- Ù ù
    -- 12/02 acute accent
    diacritic 0xC2 (
    ("A", 0x00C1) ∷ ("a", 0x00E1) ∷ ("C", 0x0106) ∷ ("c", 0x0107) ∷  -- Á á Ć ć
    ("E", 0x00C9) ∷ ("e", 0x00E9) ∷ ("g", 0x0123) ∷  -- É é ģ
    ("I", 0x00CD) ∷ ("i", 0x00ED) ∷ ("L", 0x0139) ∷ ("l", 0x013A) ∷  -- Í í Ĺ ĺ
    ("N", 0x0143) ∷ ("n", 0x0144) ∷ ("O", 0x00D3) ∷ ("o", 0x00F3) ∷  -- Ń ń Ó ó
    ("R", 0x0154) ∷ ("r", 0x0155) ∷ ("S", 0x015A) ∷ ("s", 0x015B) ∷  -- Ŕ ŕ Ś ś
    ("U", 0x00DA) ∷ ("u", 0x00FA) ∷ ("Y", 0x00DD) ∷ ("y", 0x00FD) ∷  -- Ú ú Ý ý
    ("Z", 0x0179) ∷ ("z", 0x017A) ∷ (" ", 0x00B4) ∷ []) ∷  -- Ź ź ´
    -- 12/03 circumflex accent
    diacritic 0xC3 (
    ("A", 0x00C2) ∷ ("a", 0x00E2) ∷ ("C", 0x0108) ∷ ("c", 0x0109) ∷  -- Â â Ĉ ĉ
    ("E", 0x00CA) ∷ ("e", 0x00EA) ∷ ("G", 0x011C) ∷ ("g", 0x011D) ∷  -- Ê ê Ĝ ĝ
    ("H", 0x0124) ∷ ("h", 0x0125) ∷ ("I", 0x00CE) ∷ ("i", 0x00EE) ∷  -- Ĥ ĥ Î î
    ("J", 0x0134) ∷ ("j", 0x0135) ∷ ("O", 0x00D4) ∷ ("o", 0x00F4) ∷  -- Ĵ ĵ Ô ô
    ("S", 0x015C) ∷ ("s", 0x015D) ∷ ("U", 0x00DB) ∷ ("u", 0x00FB) ∷  -- Ŝ ŝ Û û
    ("W", 0x0174) ∷ ("w", 0x0175) ∷ ("Y", 0x0176) ∷ ("y", 0x0177) ∷ []) ∷  -- Ŵ ŵ Ŷ ŷ
    -- 12/04 tilde
    diacritic 0xC4 (
    ("A", 0x00C3) ∷ ("a", 0x00E3) ∷ ("I", 0x0128) ∷ ("i", 0x0129) ∷  -- Ã ã Ĩ ĩ
    ("N", 0x00D1) ∷ ("n", 0x00F1) ∷ ("O", 0x00D5) ∷ ("o", 0x00F5) ∷  -- Ñ ñ Õ õ
    ("U", 0x0168) ∷ ("u", 0x0169) ∷ []) ∷  -- Ũ ũ
    -- 12/05 macron
    diacritic 0xC5 (
    ("A", 0x0100) ∷ ("a", 0x0101) ∷ ("E", 0x0112) ∷ ("e", 0x0113) ∷  -- Ā ā Ē ē
    ("I", 0x012A) ∷ ("i", 0x012B) ∷ ("O", 0x014C) ∷ ("o", 0x014D) ∷  -- Ī ī Ō ō
    ("U", 0x016A) ∷ ("u", 0x016B) ∷ (" ", 0x00AF) ∷ []) ∷  -- Ū ū ¯
    -- 12/06 breve
    diacritic 0xC6 (
    ("A", 0x0102) ∷ ("a", 0x0103) ∷ ("G", 0x011E) ∷ ("g", 0x011F) ∷  -- Ă ă Ğ ğ
    ("U", 0x016C) ∷ ("u", 0x016D) ∷ (" ", 0x02D8) ∷ []) ∷  -- Ŭ ŭ ˘
    -- 12/07 dot above
    diacritic 0xC7 (
    ("C", 0x010A) ∷ ("c", 0x010B) ∷ ("E", 0x0116) ∷ ("e", 0x0117) ∷  -- Ċ ċ Ė ė
    ("G", 0x0120) ∷ ("g", 0x0121) ∷ ("I", 0x0130) ∷  -- Ġ ġ İ
    ("Z", 0x017B) ∷ ("z", 0x017C) ∷ (" ", 0x02D9) ∷ []) ∷  -- Ż ż ˙
    -- 12/08 diaeresis
    diacritic 0xC8 (
    ("A", 0x00C4) ∷ ("a", 0x00E4) ∷ ("E", 0x00CB) ∷ ("e", 0x00EB) ∷  -- Ä ä Ë ë
    ("I", 0x00CF) ∷ ("i", 0x00EF) ∷ ("O", 0x00D6) ∷ ("o", 0x00F6) ∷  -- Ï ï Ö ö
    ("U", 0x00DC) ∷ ("u", 0x00FC) ∷ ("Y", 0x0178) ∷ ("y", 0x00FF) ∷  -- Ü ü Ÿ ÿ
    (" ", 0x00A8) ∷ []) ∷  -- ¨
    -- 12/10 ring above
    diacritic 0xCA (
    ("A", 0x00C5) ∷ ("a", 0x00E5) ∷ ("U", 0x016E) ∷ ("u", 0x016F) ∷  -- Å å Ů ů
    (" ", 0x02DA) ∷ []) ∷  -- ˚
    -- 12/11 cedilla
    diacritic 0xCB (
    ("C", 0x00C7) ∷ ("c", 0x00E7) ∷ ("G", 0x0122) ∷  -- Ç ç Ģ
    ("K", 0x0136) ∷ ("k", 0x0137) ∷ ("L", 0x013B) ∷ ("l", 0x013C) ∷  -- Ķ ķ Ļ ļ
    ("N", 0x0145) ∷ ("n", 0x0146) ∷ ("R", 0x0156) ∷ ("r", 0x0157) ∷  -- Ņ ņ Ŗ ŗ
    ("S", 0x015E) ∷ ("s", 0x015F) ∷ ("T", 0x0162) ∷ ("t", 0x0163) ∷  -- Ş ş Ţ ţ
    (" ", 0x00B8) ∷ []) ∷  -- ¸
    -- 12/13 double acute accent
    diacritic 0xCD (
    ("O", 0x0150) ∷ ("o", 0x0151) ∷ ("U", 0x0170) ∷ ("u", 0x0171) ∷  -- Ő ő Ű ű
    (" ", 0x02DD) ∷ []) ∷  -- ˝
    -- 12/14 ogonek
    diacritic 0xCE (
    ("A", 0x0104) ∷ ("a", 0x0105) ∷ ("E", 0x0118) ∷ ("e", 0x0119) ∷  -- Ą ą Ę ę
    ("I", 0x012E) ∷ ("i", 0x012F) ∷ ("U", 0x0172) ∷ ("u", 0x0173) ∷  -- Į į Ų ų
    (" ", 0x02DB) ∷ []) ∷  -- ˛
    -- 12/15 caron
    diacritic 0xCF (
    ("C", 0x010C) ∷ ("c", 0x010D) ∷ ("D", 0x010E) ∷ ("d", 0x010F) ∷  -- Č č Ď ď
    ("E", 0x011A) ∷ ("e", 0x011B) ∷ ("L", 0x013D) ∷ ("l", 0x013E) ∷  -- Ě ě Ľ ľ
    ("N", 0x0147) ∷ ("n", 0x0148) ∷ ("R", 0x0158) ∷ ("r", 0x0159) ∷  -- Ň ň Ř ř
    ("S", 0x0160) ∷ ("s", 0x0161) ∷ ("T", 0x0164) ∷ ("t", 0x0165) ∷  -- Š š Ť ť
    ("Z", 0x017D) ∷ ("z", 0x017E) ∷ (" ", 0x02C7) ∷ []) ∷  -- Ž ž ˇ
    []
