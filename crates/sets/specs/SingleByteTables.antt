-- The upper halves of the single-byte sets: columns 10 to 15, each in two lines, rows 0 to 7 and
-- rows 8 to 15. Above each number stands its character.
use Rattle.std.specs.Prelude.{ℕ, List, [], ◌∷◌}

-- ISO/IEC 8859-16:2001, Table 1
unfoldable pub iso8859_16 : List (List ℕ)
iso8859_16 =
    -- column 10
    -- NBSP       Ą        ą        Ł        €        „        Š        §
    (0x00A0 ∷ 0x0104 ∷ 0x0105 ∷ 0x0141 ∷ 0x20AC ∷ 0x201E ∷ 0x0160 ∷ 0x00A7 ∷
    --  š        ©        Ș        «        Ź      SHY        ź        Ż
    0x0161 ∷ 0x00A9 ∷ 0x0218 ∷ 0x00AB ∷ 0x0179 ∷ 0x00AD ∷ 0x017A ∷ 0x017B ∷ []) ∷
    -- column 11
    --   °        ±        Č        ł        Ž        ”        ¶        ·
    (0x00B0 ∷ 0x00B1 ∷ 0x010C ∷ 0x0142 ∷ 0x017D ∷ 0x201D ∷ 0x00B6 ∷ 0x00B7 ∷
    --  ž        č        ș        »        Œ        œ        Ÿ        ż
    0x017E ∷ 0x010D ∷ 0x0219 ∷ 0x00BB ∷ 0x0152 ∷ 0x0153 ∷ 0x0178 ∷ 0x017C ∷ []) ∷
    -- column 12
    --   À        Á        Â        Ă        Ä        Ć        Æ        Ç
    (0x00C0 ∷ 0x00C1 ∷ 0x00C2 ∷ 0x0102 ∷ 0x00C4 ∷ 0x0106 ∷ 0x00C6 ∷ 0x00C7 ∷
    --  È        É        Ê        Ë        Ì        Í        Î        Ï
    0x00C8 ∷ 0x00C9 ∷ 0x00CA ∷ 0x00CB ∷ 0x00CC ∷ 0x00CD ∷ 0x00CE ∷ 0x00CF ∷ []) ∷
    -- column 13
    --   Đ        Ń        Ò        Ó        Ô        Ő        Ö        Ś
    (0x0110 ∷ 0x0143 ∷ 0x00D2 ∷ 0x00D3 ∷ 0x00D4 ∷ 0x0150 ∷ 0x00D6 ∷ 0x015A ∷
    --  Ű        Ù        Ú        Û        Ü        Ę        Ț        ß
    0x0170 ∷ 0x00D9 ∷ 0x00DA ∷ 0x00DB ∷ 0x00DC ∷ 0x0118 ∷ 0x021A ∷ 0x00DF ∷ []) ∷
    -- column 14
    --   à        á        â        ă        ä        ć        æ        ç
    (0x00E0 ∷ 0x00E1 ∷ 0x00E2 ∷ 0x0103 ∷ 0x00E4 ∷ 0x0107 ∷ 0x00E6 ∷ 0x00E7 ∷
    --  è        é        ê        ë        ì        í        î        ï
    0x00E8 ∷ 0x00E9 ∷ 0x00EA ∷ 0x00EB ∷ 0x00EC ∷ 0x00ED ∷ 0x00EE ∷ 0x00EF ∷ []) ∷
    -- column 15
    --   đ        ń        ò        ó        ô        ő        ö        ś
    (0x0111 ∷ 0x0144 ∷ 0x00F2 ∷ 0x00F3 ∷ 0x00F4 ∷ 0x0151 ∷ 0x00F6 ∷ 0x015B ∷
    --  ű        ù        ú        û        ü        ę        ț        ÿ
    0x0171 ∷ 0x00F9 ∷ 0x00FA ∷ 0x00FB ∷ 0x00FC ∷ 0x0119 ∷ 0x021B ∷ 0x00FF ∷ []) ∷
    []

-- the Sami set for ISO/IEC 8859 environments, ISO-IR 209
unfoldable pub sami : List (List ℕ)
sami =
    -- column 10
    -- NBSP       Č        č        Đ        đ        Ǥ        ǥ        §
    (0x00A0 ∷ 0x010C ∷ 0x010D ∷ 0x0110 ∷ 0x0111 ∷ 0x01E4 ∷ 0x01E5 ∷ 0x00A7 ∷
    --  Ǧ        ©        ǧ        Ȟ        Ǩ      SHY        ǩ        Ŋ
    0x01E6 ∷ 0x00A9 ∷ 0x01E7 ∷ 0x021E ∷ 0x01E8 ∷ 0x00AD ∷ 0x01E9 ∷ 0x014A ∷ []) ∷
    -- column 11
    --   °        ŋ        Š        š        ´        Ŧ        ¶        ·
    (0x00B0 ∷ 0x014B ∷ 0x0160 ∷ 0x0161 ∷ 0x00B4 ∷ 0x0166 ∷ 0x00B6 ∷ 0x00B7 ∷
    --  ŧ        Ž        ž        ȟ        Ʒ        ʒ        Ǯ        ǯ
    0x0167 ∷ 0x017D ∷ 0x017E ∷ 0x021F ∷ 0x01B7 ∷ 0x0292 ∷ 0x01EE ∷ 0x01EF ∷ []) ∷
    -- column 12
    --   À        Á        Â        Ã        Ä        Å        Æ        Ç
    (0x00C0 ∷ 0x00C1 ∷ 0x00C2 ∷ 0x00C3 ∷ 0x00C4 ∷ 0x00C5 ∷ 0x00C6 ∷ 0x00C7 ∷
    --  È        É        Ê        Ë        Ì        Í        Î        Ï
    0x00C8 ∷ 0x00C9 ∷ 0x00CA ∷ 0x00CB ∷ 0x00CC ∷ 0x00CD ∷ 0x00CE ∷ 0x00CF ∷ []) ∷
    -- column 13
    --   Ð        Ñ        Ò        Ó        Ô        Õ        Ö        ×
    (0x00D0 ∷ 0x00D1 ∷ 0x00D2 ∷ 0x00D3 ∷ 0x00D4 ∷ 0x00D5 ∷ 0x00D6 ∷ 0x00D7 ∷
    --  Ø        Ù        Ú        Û        Ü        Ý        Þ        ß
    0x00D8 ∷ 0x00D9 ∷ 0x00DA ∷ 0x00DB ∷ 0x00DC ∷ 0x00DD ∷ 0x00DE ∷ 0x00DF ∷ []) ∷
    -- column 14
    --   à        á        â        ã        ä        å        æ        ç
    (0x00E0 ∷ 0x00E1 ∷ 0x00E2 ∷ 0x00E3 ∷ 0x00E4 ∷ 0x00E5 ∷ 0x00E6 ∷ 0x00E7 ∷
    --  è        é        ê        ë        ì        í        î        ï
    0x00E8 ∷ 0x00E9 ∷ 0x00EA ∷ 0x00EB ∷ 0x00EC ∷ 0x00ED ∷ 0x00EE ∷ 0x00EF ∷ []) ∷
    -- column 15
    --   ð        ñ        ò        ó        ô        õ        ö        ÷
    (0x00F0 ∷ 0x00F1 ∷ 0x00F2 ∷ 0x00F3 ∷ 0x00F4 ∷ 0x00F5 ∷ 0x00F6 ∷ 0x00F7 ∷
    --  ø        ù        ú        û        ü        ý        þ        ÿ
    0x00F8 ∷ 0x00F9 ∷ 0x00FA ∷ 0x00FB ∷ 0x00FC ∷ 0x00FD ∷ 0x00FE ∷ 0x00FF ∷ []) ∷
    []
